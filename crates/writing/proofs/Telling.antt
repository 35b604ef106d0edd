-- What a writer returned and left, as the call hands it back. Assumes nothing.
use mathlib.Core.Path.{◌≡◌, refl, ap, ◌∙◌}
use mathlib.Core.Bool.{Bool, true, false}
use mathlib.Core.List.{List, ◌++◌}
use Prim.Native.Nat.{ℕ, ◌≤◌, ◌<◌}
use native.Mathlib.Omega.{arith}
use lib.Dec.{ltb}
use lib.ListN.{length, drop, set}
use borrow.Author.Tests.{lt-ltb, le-ltb}
use Rattle.std.specs.Prelude.{Result, Ok, Err}
use Rattle.answer.specs.Written as W
use Rattle.answer.specs.Answers.{complete}
use Rattle.answer.specs.declared.Kind.{Kind}
use Rattle.output.specs.Delivery.{counted, delivered}
use Rattle.output.specs.declared.TooLong.{TooLong}
use Rattle.writing.specs.Writing.{WriteCall, wrote, Told, told, wrote_event}

-- w and o are what the writer of bs returned and left; t is what is told of w
pub tells : (bs place out : List ℕ) (w : Result ℕ TooLong) (o : List ℕ) (t : Told) → w ≡ counted bs out → o ≡ delivered bs out → t ≡ told w place
    → record { number = t.number; written = t.written; out = o } ≡ wrote bs place out
unfolding counted delivered wrote
tells bs place out w o t p q r =
    ap {B = WriteCall} (λ (x : Told). record { number = x.number; written = x.written; out = o }) (r ∙ ap (λ (x : Result ℕ TooLong). told x place) p)
    ∙ ap {B = WriteCall} (λ (l : List ℕ). record { number = (told (counted bs out) place).number; written = (told (counted bs out) place).written; out = l }) q
    ∙ go (ltb (length out) (length bs))
  where
    count : Bool → Result ℕ TooLong
    count b = elim b [ true ↦ Err (record {}) | false ↦ Ok (length bs) ]

    left : Bool → List ℕ
    left b = elim b [ true ↦ out | false ↦ bs ++ drop (length bs) out ]

    call : Bool → WriteCall
    call b = elim b [
      | true ↦ record { number = 7; written = set place 0 0; out = out }
      | false ↦ record { number = 0; written = set place 0 (length bs); out = bs ++ drop (length bs) out }
    ]

    go : (b : Bool) → ◌≡◌ {A = WriteCall} (record { number = (told (count b) place).number; written = (told (count b) place).written; out = left b }) (call b)
    go true = refl
    go false = refl

module _ (name place out : List ℕ) (id cause : ℕ) where
  pub cause_refused : 8 ≤ cause
      → record { number = 9; written = set place 0 0; out = out } ≡ wrote_event name id cause place out
  cause_refused h = rw (lt-ltb 7 cause (omega arith), wrote_event)

  pub completed : cause < 8 → (w : Result ℕ TooLong) (o : List ℕ) (t : Told)
      → w ≡ counted (W.written (complete Kind.Synthesizer name id cause)) out
      → o ≡ delivered (W.written (complete Kind.Synthesizer name id cause)) out
      → t ≡ told w place
      → record { number = t.number; written = t.written; out = o } ≡ wrote_event name id cause place out
  completed h w o t e f r = rw (le-ltb 7 cause (omega arith), wrote_event) (tells _ place out w o t e f r)
