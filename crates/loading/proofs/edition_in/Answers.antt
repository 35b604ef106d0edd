-- `loading::edition_in` goes by the kind, and reads one setting after the other. Assumes nothing.
use Prim.Native.Nat.{◌+◌}
use mathlib.Core.Path.{◌≡◌}
use native.Mathlib.Omega.{arith}
use Rattle.loading.proofs.Settings.{two_read, three_read}
use Rattle.loading.proofs.edition_in.Goals as goal

pub returns-in-Synthesizer : goal.returns-in-Synthesizer
returns-in-Synthesizer c =
    let a = c.args in
    rw c.in-Synthesizer.is (two_read a.at a.ws.now c.setting_in.ensures c.setting_in-in-Synthesizer.ensures)

pub returns-in-Recognizer : goal.returns-in-Recognizer
returns-in-Recognizer c =
    let a = c.args in
    let four : a.at + 4 ≡ a.at + 2 + 2 = omega arith in
    rw c.in-Recognizer.is
    (three_read a.at a.ws.now c.setting_in-in-Recognizer.ensures c.setting_in-in-Recognizer-2.ensures (rw four at c.setting_in-in-Recognizer-3.ensures))
