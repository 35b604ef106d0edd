-- What a call leaves, one law for each way out. Assumes nothing.
use Prim.Native.Nat.{ℕ, ◌≤◌}
use mathlib.Core.Path.{◌≡◌, refl, sym, ap, subst, ◌∙◌}
use mathlib.Core.Bool.{Bool, true, false, ◌&&◌}
use mathlib.Core.List.{List, ◌++◌}
use native.Mathlib.Nat.{le_trans}
use native.Mathlib.Omega.{arith}
use lib.Dec.{ltb, leb}
use lib.ListN.{length, drop}
use borrow.Author.Tests.{leb-true}
use Rattle.lists.specs.Lists.{all}
use Rattle.lists.proofs.Tests.{both}
use Rattle.answer.specs.Written.{written_all}
use Rattle.output.specs.Delivery.{counted, delivered}
use Rattle.output.specs.declared.TooLong.{TooLong}
use Rattle.ledger.specs.Ledger.{Turn}
use Rattle.synth.specs.Settings.{is_edition_of}
use Rattle.synth.specs.Channel.{View, kind, are_editions, sound}
use Rattle.synth.specs.Calls.{Call, Reply, refuse, deliver, call}
use Rattle.synth.specs.States as S
use Rattle.synth.proofs.Channels.{sound_facts, most_16}
use Rattle.synth.specs.declared.Edition.{Edition}
use Rattle.channelnames.specs.Names.{name_of}
use Rattle.channel.specs.Channel.{view}
use Rattle.channel.specs.declared.Channel.{Channel}
use Rattle.channelnames.proofs.Fits.{name_fits_lem}
use Rattle.settings.specs.Kept.{further_on}
use Rattle.std.proofs.Common.{Option, Result, Ok, Err}
use Rattle.std.proofs.lemmas.Result.{err_from_is_err_and}
use Rattle.std.specs.Result.{IsErrAnd}
use Rattle.calls.specs.Refusals.{number_of}
use Rattle.calls.specs.Promise.{Leaves}
use Rattle.calls.specs.declared.Refusal.TheVariants.{NoRoom}
use Rattle.calls.specs.declared.Refused.{Refused}
use Rattle.calls.specs.declared.Handled.{Handled}

-- what soundness says of the arrays
module _ (v : View) (s : sound v ≡ true) where
  pub name_short : length v.name ≤ 44
  name_short = name_fits_lem v.name (sound_facts v s).named

  pub queue_short : length v.queue ≤ 16
  queue_short = le_trans (sound_facts v s).few (most_16 (kind v))

  pub editions_short : length v.editions ≤ 4
  unfolding are_editions
  editions_short =
      let few = (both (leb 1 (length v.editions) && leb (length v.editions) 4) (all (is_edition_of (kind v)) v.editions)
      (sound_facts v s).editions_fit).0 in
      leb-true (length v.editions) 4 (both (leb 1 (length v.editions)) (leb (length v.editions) 4) few).1

module _ {last : Option ℕ} {c : Channel} {es : List Edition} where
  pub turned : {t u : Turn View Reply} {out : List ℕ} {r : Result Handled Refused} {after : List ℕ} → t ≡ u → Leaves last c es t out r after
      → Leaves last c es u out r after
  turned {t} {u} {out} {r} {after} e h = subst (λ (x : Turn View Reply). Leaves last c es x out r after) e h

  -- a refusal
  pub leaves_refused : {e x : Refused} (out : List ℕ) → x ≡ e → {t : Turn View Reply} → t ≡ refuse (view last c es) (number_of e.refusal) e.consumed
      → Leaves last c es t out (Err x) out
  leaves_refused {e} {x} out g {t} f = rw (f, g) (record { same = refl; named = refl; kept = λ n. (refl, refl, refl) })

  -- the same where a `?` refuses
  pub leaves_stopped : (e : Refused) (out : List ℕ) (r : Result Handled Refused) → IsErrAnd r (λ y. y ≡ e) → {t : Turn View Reply}
      → t ≡ refuse (view last c es) (number_of e.refusal) e.consumed → Leaves last c es t out r out
  leaves_stopped e out r n {t} f = let p = err_from_is_err_and r n in rw p.1 (leaves_refused out p.2 f)

-- an answer bs that is delivered, or refused where it is longer than the output
module _ (last : Option ℕ) (c : Channel) (es : List Edition) (consumed : ℕ) (out bs : List ℕ) (d : S.Outcome) (says : written_all d.says ≡ bs)
    (w : Result ℕ TooLong) (p : w ≡ counted bs out) (after : List ℕ) (q : after ≡ delivered bs out) where
  abbrev turn : Bool → Turn View Reply
  turn b = elim b [
    | true ↦ refuse (view last c es) 7 0
    | false ↦ record { reply = record { number = 0; consumed = consumed; written = bs }; next = d.next }
  ]

  turn_is : deliver (view last c es) consumed (length out) d ≡ turn (ltb (length out) (length bs))
  unfolding deliver
  turn_is = ap {B = Turn View Reply} delivering says
    where
      delivering : List ℕ → Turn View Reply
      delivering l = elim (ltb (length out) (length l)) [
        | true ↦ refuse (view last c es) 7 0
        | false ↦ record { reply = record { number = 0; consumed = consumed; written = l }; next = d.next }
      ]

  abbrev counts : Bool → Result ℕ TooLong
  counts b = elim b [ true ↦ Err (record {}) | false ↦ Ok (length bs) ]

  abbrev holds : Bool → List ℕ
  holds b = elim b [ true ↦ out | false ↦ bs ++ drop (length bs) out ]

  counts_is : w ≡ counts (ltb (length out) (length bs))
  unfolding counted
  counts_is = p

  holds_is : after ≡ holds (ltb (length out) (length bs))
  unfolding delivered
  holds_is = q

  pub leaves_too_long : {x : TooLong} → w ≡ Err x → (r : Result Handled Refused) → IsErrAnd r (λ y. y ≡ record { refusal = NoRoom; consumed = 0 })
      → Leaves last c es (deliver (view last c es) consumed (length out) d) out r after
  leaves_too_long {x} e r n =
      subst (λ t. Leaves last c es t out r after) (sym turn_is) (go (ltb (length out) (length bs)) (sym counts_is ∙ e) holds_is)
    where
      go : (b : Bool) → counts b ≡ Err x → after ≡ holds b → Leaves last c es (turn b) out r after
      go true x y = rw y (leaves_stopped (record { refusal = NoRoom; consumed = 0 }) out r n refl)
      go false x y = let z : ◌≡◌ {A = ℕ} 0 1 = cc in absurd (omega arith)

  pub leaves_answer : (n : ℕ) → w ≡ Ok n → (seen : Option ℕ) (next : Channel) (further : Option Edition) → view seen next (further_on further es) ≡ d.next
      → name_of next.name ≡ name_of c.name
      → Leaves last c es (deliver (view last c es) consumed (length out) d) out (Ok (record { consumed = consumed; written = n; last = seen; channel = next; further = further })) after
  leaves_answer n e seen next further f named =
      subst (λ t. Leaves last c es t out (Ok (record { consumed = consumed; written = n; last = seen; channel = next; further = further })) after) (sym turn_is)
      (go (ltb (length out) (length bs)) (sym counts_is ∙ e) holds_is)
    where
      go : (b : Bool) → counts b ≡ Ok n → after ≡ holds b
          → Leaves last c es (turn b) out (Ok (record { consumed = consumed; written = n; last = seen; channel = next; further = further })) after
      go true x y = let z : ◌≡◌ {A = ℕ} 0 1 = cc in absurd (omega arith)
      go false x y =
          let m : length bs ≡ n = cc in
          record { same = λ i. record { number = 0; consumed = consumed; written = sym m i; channel = f i; out = y i }; named = named; kept = λ z. absurd (z refl) }

pub unsound_refused : (v : View) (c : Call) → sound v ≡ false → call v c ≡ refuse v 21 0
unfolding call
unsound_refused v c e = rw (e, call)
