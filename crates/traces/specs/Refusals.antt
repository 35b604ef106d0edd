-- The numbers of refusals: document 02, K7.
use Rattle.std.specs.Prelude.{ℕ}
use Rattle.traces.specs.declared.Refusal.{Refusal}

abbrev pub number_of : Refusal → ℕ
number_of Refusal.NoRoom = 7
number_of Refusal.NoTrace = 13
number_of Refusal.Misframed = 14
number_of Refusal.NoSuchMessage = 22
