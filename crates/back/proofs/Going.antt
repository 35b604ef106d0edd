-- What a going back comes to, one law for each way out. Assumes nothing.
use Prim.Native.Nat.{ℕ}
use mathlib.Core.Path.{◌≡◌, refl, ap}
use mathlib.Core.Bool.{true}
use mathlib.Core.Option.{none, some}
use mathlib.Core.Option as O
use mathlib.Core.List.{List, []}
use native.Mathlib.Omega.{arith}
use Rattle.std.proofs.Common.{Option, Some, None, Ok, Err}
use Rattle.std.specs.Option.{ok_or}
use Rattle.ledger.specs.Ledger.{Turn}
use Rattle.synth.specs.Settings.{edition_at}
use Rattle.synth.specs.Channel.{View, with_edition, sound}
use Rattle.synth.specs.Calls.{Reply, refuse, back, call, going_back, gone_back}
use Rattle.synth.specs.declared.Edition.{Edition}
use Rattle.settings.specs.Kept.{as_further}
use Rattle.channel.specs.Channel.{view}
use Rattle.channel.specs.declared.Channel.{Channel}
use Rattle.calls.specs.Promise.{Leaves}
use Rattle.calls.specs.declared.Refusal.{Refusal}

-- where none was found
pub missing : (o : Option Edition) (e x : Refusal) → ok_or o e ≡ Err x → (o ≡ None) × (x ≡ e)
missing None e x p = (refl, cc)
missing (Some a) e x p = let d : ◌≡◌ {A = ℕ} 0 1 = cc in absurd (omega arith)

-- what was found tells the edition
pub found_none : (o : O.Option Edition) → None ≡ as_further o → o ≡ none
found_none none e = refl
found_none (some x) e = let d : ◌≡◌ {A = ℕ} 0 1 = cc in absurd (omega arith)

pub found_some : (e : Edition) (o : O.Option Edition) → Some e ≡ as_further o → o ≡ some e
found_some e none q = let d : ◌≡◌ {A = ℕ} 0 1 = cc in absurd (omega arith)
found_some e (some x) q = let p : x ≡ e = cc in ap some p

module _ (v : View) (n : ℕ) (sane : sound v ≡ true) where
  goes : (o : O.Option Edition) → edition_at n v.editions ≡ o → call v (record { lent = back n; room = 0 }) ≡ going_back o v
  unfolding call gone_back
  goes o e = rw (sane, call) (ap (λ (o : O.Option Edition). going_back o v) e)

  pub none_kept : edition_at n v.editions ≡ none → call v (record { lent = back n; room = 0 }) ≡ refuse v 12 0
  none_kept e = goes none e

  pub goes_to : (e : Edition) → edition_at n v.editions ≡ some e
      → call v (record { lent = back n; room = 0 })
      ≡ record { reply = record { number = 0; consumed = 0; written = [] }; next = with_edition e v }
  goes_to e q = goes (some e) q

-- a further edition, and nothing written
pub leaves_further : (last : Option ℕ) (c : Channel) (es : List Edition) (e : Edition) {t : Turn View Reply}
    → t ≡ record { reply = record { number = 0; consumed = 0; written = [] }; next = with_edition e (view last c es) }
    → Leaves last c es t [] (Ok (record { consumed = 0; written = 0; last = last; channel = c; further = Some e })) []
leaves_further last c es e q = rw q (record { same = refl; named = refl; kept = λ z. absurd (z refl) })
