-- What judgements 1 to 5 come to, one law for each way out. Assumes nothing.
use Prim.Native.Nat.{ℕ}
use mathlib.Core.Path.{◌≡◌, refl, sym, ap, ◌∙◌}
use mathlib.Core.Bool.{Bool, true, false, ◌&&◌}
use mathlib.Core.Option.{none, some}
use mathlib.Core.List.{List}
use lib.Dec.{eqb, leb}
use lib.ListN.{length}
use borrow.Author.Tests.{le-leb}
use Rattle.lists.specs.Lists.{same}
use Rattle.message.specs.Message.{Fields}
use Rattle.message.specs.Folds.{joined}
use Rattle.message.specs.declared.Known.TheVariants.{ChannelIdentifier}
use Rattle.synth.specs.Channel.{View, well_named, first_above, with_last}
use Rattle.synth.specs.Request.{Request, is_good, acting}
use Rattle.synth.specs.Judgement.{Verdict, passes, fails, ◌then◌, unless, version, well_formed, addressed, ours, above, early, late}
use Rattle.synth.specs.States as S
use Rattle.synth.specs.declared.Method.{Method}
use Rattle.std.proofs.Common.{Some}
use Rattle.synth.proofs.Theorems.ValuesJudgedAlike.{name_alike}
use Rattle.channelnames.proofs.Fits.{name_fits_lem}
use Rattle.header.specs.declared.Header.{Header}
use Rattle.values.specs.Values.{given_of}
use Rattle.request.specs.Telling.{Tells, value_by}
use Rattle.outcomes.specs.Outcomes.{asked, Makes}
use Rattle.outcomes.specs.declared.Outcome.{Outcome}
use Rattle.params.specs.Doing.{Does}
use Rattle.params.specs.declared.Done.{Done}
use Rattle.params.specs.declared.Effect.{Effect}
use Rattle.judgement.specs.Judged.{from_fields}

-- a well-formed name is compared whole, and with what came as it stands
pub name_told : (v : View) (name x : List ℕ) {b : Bool} → v.name ≡ name → well_named name ≡ true
    → b ≡ (leb (length name) 44 && same name x) → same v.name (joined x) ≡ b
name_told v name x n h e =
    rw n (name_alike name h x ∙ sym (e ∙ rw (le-leb (length name) 44 (name_fits_lem name h))))

module _ (v : View) (major minor : ℕ) (m : Method) (id : ℕ) (fs : Fields (List ℕ)) where
  abbrev r : Request
  r = asked major minor m id fs

  -- 2 to 5
  abbrev pub rest : Verdict
  rest = from_fields v r

  pub outdated : (eqb major 2 && eqb minor 0) ≡ false → S.judge v r ≡ S.failed v r 502
  unfolding S.judge early version unless ◌then◌
  outdated e = rw e

  pub current : (eqb major 2 && eqb minor 0) ≡ true → S.judge v r ≡ S.after_early rest v r
  unfolding S.judge early version unless ◌then◌
  current e = rw e

  pub not_good : is_good fs ≡ false → fails 404 ≡ rest
  unfolding well_formed unless ◌then◌
  not_good e = rw e

  module _ (e : is_good fs ≡ true) where
    pub nameless : none ≡ acting ChannelIdentifier r → fails 406 ≡ rest
    unfolding well_formed addressed unless ◌then◌
    nameless n = rw (e, ← n)

    pub named : (x : List ℕ) → some x ≡ acting ChannelIdentifier r → (ours v r then above v r) ≡ rest
    unfolding well_formed addressed unless ◌then◌
    named x n = rw (e, ← n)

  module _ (x : List ℕ) (n : some x ≡ acting ChannelIdentifier r) where
    pub other_name : same v.name x ≡ false → fails 405 ≡ (ours v r then above v r)
    unfolding ours unless ◌then◌
    other_name e = rw (← n, e)

    pub not_above : same v.name x ≡ true → leb (first_above v.last) id ≡ false → fails 410 ≡ (ours v r then above v r)
    unfolding ours above unless ◌then◌
    not_above e a = rw (← n, e, a)

    pub ours_above : same v.name x ≡ true → leb (first_above v.last) id ≡ true → passes ≡ (ours v r then above v r)
    unfolding ours above unless ◌then◌
    ours_above e a = rw (← n, e, a)

  pub address_told : (asks : Bool) (f : List ℕ) (h : Header) → Tells asks f h fs → given_of f (value_by h ChannelIdentifier) ≡ acting ChannelIdentifier r
  unfolding acting
  address_told asks f h w = w.value ChannelIdentifier refl

  pub early_fails : (status : ℕ) → fails status ≡ rest → S.after_early rest v r ≡ S.failed v r status
  early_fails status e = ap (λ (x : Verdict). S.after_early x v r) (sym e)

  pub early_passes : passes ≡ rest → S.after_early rest v r ≡ (let seen : View = with_last (Some id) v in S.after_late (late seen r) seen r)
  early_passes e = ap (λ (x : Verdict). S.after_early x v r) (sym e)

-- an answer alone says and leaves what it did before it was one
pub plain_does : {v : View} {o : Outcome} {d : Done} {x : S.Outcome} → d ≡ record { outcome = o; effect = Effect.Nothing }
    → Makes v o x → Does v d.outcome d.effect x
plain_does e m = rw e (record { says = m.says; left = m.left; few = m.few; ends = tt })
