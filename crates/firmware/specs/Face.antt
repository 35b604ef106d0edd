-- What the calls of the C face hand back: document 01, last section. include/klarvesimo.h is their manual.
use Rattle.std.specs.Prelude.{ℕ, zero, suc, List, [], ◌∷◌, take, set, Ok, Err}
use Rattle.framing.specs.Framing.{Framing, framing, refusal}
use Rattle.message.specs.Message.{Reading, refused, message}
use Rattle.message.specs.Reading.{reading}
use Rattle.message.specs.declared.Span.{Span}
use Rattle.messagenumbers.specs.Layout.{Face, handed, message_numbers}

-- the number of a refusal; else version, and the lengths of the opening and of the frame
abbrev pub framed : Framing → List ℕ → Face
framed (Err why) out = record { number = refusal (Err why); out = out }
framed (Ok f) out = handed (f.major ∷ f.minor ∷ f.opening ∷ f.length ∷ []) out

unfoldable pub frame_face : List ℕ → List ℕ → Face
frame_face s out = framed (framing s) out

-- a call's number, the count consumed, and the numbers lent to it as it leaves them
pub record ReadFace : Type 0 where
  pub number : ℕ
  pub consumed : ℕ
  pub out : List ℕ

abbrev pub consuming : ℕ → Face → ReadFace
consuming n f = record { number = f.number; consumed = elim f.number [ zero ↦ n | suc k ↦ 0 ]; out = f.out }

abbrev pub read_as : List ℕ → Reading Span → List ℕ → ReadFace
read_as s (refused number consumed) out = record { number = number; consumed = consumed; out = out }
read_as s (message h st fs) out = consuming h.stated (handed (message_numbers (take h.stated s) h st fs) out)

unfoldable pub read_face : List ℕ → List ℕ → ReadFace
read_face s out = read_as s (reading s) out

-- a call's number, the place lent for the count consumed, and the numbers lent, as it leaves them
pub record ReadCall : Type 0 where
  pub number : ℕ
  pub consumed : List ℕ
  pub out : List ℕ

abbrev pub called : List ℕ → ReadFace → ReadCall
called place r = record { number = r.number; consumed = set place 0 r.consumed; out = r.out }
