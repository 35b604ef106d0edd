-- The numbers of the refusals: document 01, "Refusal numbers", and document 02, K1 and K5.
use Rattle.std.specs.Prelude.{ℕ}
use Rattle.calls.specs.declared.Refusal.{Refusal}
use Rattle.calls.specs.declared.Refusal.TheVariants.{More, NoMessage, TooLong, TooShort, MalformedLine, NoRequest}
use Rattle.calls.specs.declared.Refusal.TheVariants.{NoRoom, NothingAwaited, NoCause, NoScore, NotKept, NotSound}
use Rattle.framing.specs.declared.NoFrame.{NoFrame}
use Rattle.framing.specs.declared.NoFrame.TheVariants as F

abbrev pub number_of : Refusal → ℕ
number_of More = 1
number_of NoMessage = 2
number_of TooLong = 3
number_of TooShort = 4
number_of MalformedLine = 5
number_of NoRequest = 6
number_of NoRoom = 7
number_of NothingAwaited = 8
number_of NoCause = 9
number_of NoScore = 11
number_of NotKept = 12
number_of NotSound = 21

-- where no message is framed
abbrev pub unframed : NoFrame → Refusal
unframed F.More = More
unframed F.NoMessage = NoMessage
unframed F.TooLong = TooLong
unframed F.TooShort = TooShort
