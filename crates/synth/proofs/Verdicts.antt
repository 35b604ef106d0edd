-- Steps of judgement: what passing says, and with which statuses they fail, none of which is a success. Assumes nothing.
use Prim.Native.Nat.{ℕ, ◌<◌}
use mathlib.Core.Path.{◌≡◌, refl}
use mathlib.Core.Bool.{Bool, true, false, not, ◌||◌, false≢true}
use mathlib.Core.List.{List, [], ◌∷◌}
use native.Mathlib.Omega.{arith}
use lib.Dec.{eqb, ltb}
use borrow.Author.Tests.{ltb-true, not-true}
use Rattle.lists.specs.Lists.{elem}
use Rattle.lists.proofs.Tests.{choose}
use Rattle.lists.proofs.Membership.{all_elem}
use Rattle.synth.specs.Channel.{View}
use Rattle.synth.specs.Request.{Request, opens}
use Rattle.synth.specs.Judgement.{Verdict, passes, fails, ◌then◌, unless, in_opening, version, well_formed, addressed, ours, above, permitted, legal, of_kind, valid, content, capacity, early, late}

pub then_passes : (a b : Verdict) → (a then b) ≡ passes → (a ≡ passes) × (b ≡ passes)
unfolding ◌then◌
then_passes passes b e = (refl, e)
then_passes (fails n) b e = (e, let z : ◌≡◌ {A = ℕ} 0 1 = cc in absurd (omega arith))

pub unless_passes : (b : Bool) (n : ℕ) → unless b n ≡ passes → b ≡ true
unfolding unless
unless_passes true n e = refl
unless_passes false n e = let z : ◌≡◌ {A = ℕ} 0 1 = cc in absurd (omega arith)

pub opening_passes : (r : Request) (v : Verdict) → opens r.method ≡ true → in_opening r v ≡ passes → v ≡ passes
opening_passes r v s e = go (opens r.method) s e
  where
    go : (b : Bool) → b ≡ true → ◌≡◌ {A = Verdict} (elim b [ true ↦ v | false ↦ passes ]) passes → v ≡ passes
    go true t h = h
    go false t h = absurd (false≢true t)

-- the statuses of requests that fail: three digits, and neither 200 nor 201
abbrev pub failures : List ℕ
failures = 401 ∷ 402 ∷ 403 ∷ 404 ∷ 405 ∷ 406 ∷ 407 ∷ 408 ∷ 409 ∷ 410 ∷ 502 ∷ []

abbrev pub is_failure : ℕ → Bool
is_failure status = elem status failures

pub failure_fits : (status : ℕ) → is_failure status ≡ true → status < 1000
failure_fits status h = ltb-true status 1000 (all_elem (λ n. ltb n 1000) status failures refl h)

pub no_success : (status : ℕ) → is_failure status ≡ true → (eqb status 200 || eqb status 201) ≡ false
no_success status h = not-true (eqb status 200 || eqb status 201) (all_elem (λ n. not (eqb n 200 || eqb n 201)) status failures refl h)

abbrev Honest : Verdict → Type 0
Honest passes = Unit {0}
Honest (fails status) = is_failure status ≡ true

pub record Fair (v : Verdict) : Type 0 where
  honest : Honest v

pub failing : (n : ℕ) → Fair (fails n) → is_failure n ≡ true
failing n h = h.honest

then_fair : {a b : Verdict} → Fair a → Fair b → Fair (a then b)
unfolding ◌then◌
then_fair {a} {b} h k = record { honest = go a h.honest }
  where
    go : (a : Verdict) → Honest a → Honest (a then b)
    go passes h = k.honest
    go (fails n) h = h

unless_fair : (b : Bool) (n : ℕ) → is_failure n ≡ true → Fair (unless b n)
unfolding unless
unless_fair b n h = record { honest = go b }
  where
    go : (b : Bool) → Honest (unless b n)
    go true = tt
    go false = h

opening_fair : (r : Request) {v : Verdict} → Fair v → Fair (in_opening r v)
opening_fair r h = choose Fair (opens r.method) (λ e. h) (λ e. record { honest = tt })

module _ (v : View) (r : Request) where
  pub early_fair : Fair (early v r)
  unfolding early version well_formed addressed ours above
  early_fair =
      then_fair (unless_fair _ _ refl)
      (then_fair (unless_fair _ _ refl)
      (then_fair (unless_fair _ _ refl)
      (then_fair (unless_fair _ _ refl)
      (unless_fair _ _ refl))))

  content_fair : Fair (content r)
  unfolding content
  content_fair =
      opening_fair r
      (then_fair (unless_fair _ _ refl)
      (then_fair (unless_fair _ _ refl)
      (unless_fair _ _ refl)))

  pub late_fair : Fair (late v r)
  unfolding late permitted legal of_kind valid capacity
  late_fair =
      then_fair (unless_fair _ _ refl)
      (then_fair (unless_fair _ _ refl)
      (then_fair (unless_fair _ _ refl)
      (then_fair (unless_fair _ _ refl)
      (then_fair content_fair
      (opening_fair r (unless_fair _ _ refl))))))
