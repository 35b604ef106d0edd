-- `told::text` meets its contract: what was written at the front of the bytes. Assumes nothing.
use Prim.Native.Nat.{ℕ}
use native.Mathlib.Omega.{arith}
use mathlib.Core.Path.{◌≡◌, ap, ◌∙◌}
use mathlib.Core.List.{List}
use lib.ListN.{length, take, drop}
use lib.Seq.{take_at}
use Rattle.writers.specs.Buffer.{Wrote}
use Rattle.writers.proofs.Put.{put_front}
use Rattle.told.proofs.text.Goals as goal

-- what was written at the front stands there
front : {out bs after : List ℕ} {n : ℕ} → Wrote out 0 bs after n → take n after ≡ bs
front {out} {bs} {after} {n} w =
    ap (take n) (w.bytes ∙ put_front out bs) ∙ take_at bs (drop (length bs) out) n (omega arith)

pub returns-in-Synthesizer : goal.returns-in-Synthesizer
returns-in-Synthesizer c = rw c.in-Synthesizer.is (front c.put_synthesizer-count.ensures, omega arith, omega arith)

pub returns-in-Recognizer : goal.returns-in-Recognizer
returns-in-Recognizer c = rw c.in-Recognizer.is (front c.put_recognizer-count.ensures, omega arith, omega arith)
