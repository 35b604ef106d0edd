-- A message without a body as the bytes that write it, by the text of its fields.
use Rattle.std.specs.Prelude.{ℕ, ◌+◌, List, ◌++◌, length}
use Rattle.octets.specs.Octets.{bytes, crlf}
use Rattle.writers.specs.Decimal.{digits}
use Rattle.writers.specs.SelfLength.{self_length}
use Rattle.message.specs.Message.{Start, response}
use Rattle.answer.specs.Written.{start_text, field_text}
use Rattle.answer.specs.Answers.{channel_identifier}
use Rattle.answer.specs.declared.Answer.{Answer}

-- all that stands after the digits of the length
unfoldable pub behind_length : Start (List ℕ) → List ℕ → List ℕ
behind_length start fields = bytes " " ++ start_text start ++ crlf ++ fields ++ crlf

unfoldable pub bare_text : Start (List ℕ) → List ℕ → List ℕ
bare_text start fields =
    bytes "MRCP/2.0 " ++ digits (self_length (length (bytes "MRCP/2.0 ") + length (behind_length start fields)))
    ++ behind_length start fields

-- the answer that tells fields of that text
abbrev pub telling_of : List ℕ → Answer → List ℕ → List ℕ
telling_of name a text =
    bare_text (response a.id a.status.code a.state) (field_text (channel_identifier name) ++ text)
