-- A message as the bytes that write it: document 01, "Bytes written".
use Rattle.std.specs.Prelude.{ℕ, ◌+◌, List, [], ◌∷◌, ◌++◌, length}
use Rattle.octets.specs.Octets.{bytes, crlf}
use Rattle.writers.specs.Decimal.{digits, three_digits}
use Rattle.writers.specs.SelfLength.{self_length}
use Rattle.message.specs.Message.{Start, request, response, event, Field, Message}
use Rattle.message.specs.StartLines.{state_text}

-- the words of the start line after the length
unfoldable pub start_text : Start (List ℕ) → List ℕ
start_text (request name id) = name ++ bytes " " ++ digits id
start_text (response id status state) = digits id ++ bytes " " ++ three_digits status ++ bytes " " ++ state_text state
start_text (event name id state) = name ++ bytes " " ++ digits id ++ bytes " " ++ state_text state

-- no blank after a colon
unfoldable pub field_text : Field (List ℕ) → List ℕ
field_text f = f.name ++ bytes ":" ++ f.value ++ crlf

unfoldable pub fields_text : List (Field (List ℕ)) → List ℕ
fields_text [] = []
fields_text (f ∷ fs) = field_text f ++ fields_text fs

-- all that stands after the digits of the length
unfoldable pub after_length : Message → List ℕ
after_length m = bytes " " ++ start_text m.start ++ crlf ++ fields_text m.fields ++ crlf ++ m.body

-- start line with `MRCP/2.0`, fields, an empty line, body; the length is the smallest number that equals the size with its own digits
unfoldable pub written : Message → List ℕ
written m = bytes "MRCP/2.0 " ++ digits (self_length (length (bytes "MRCP/2.0 ") + length (after_length m))) ++ after_length m

-- messages end to end
unfoldable pub written_all : List Message → List ℕ
written_all [] = []
written_all (m ∷ ms) = written m ++ written_all ms
