-- A list of ids as a field's value has it: its words are the ids' digits.
use Prim.Native.Nat.{ℕ, ◌<◌}
use mathlib.Core.Path.{◌≡◌, refl, ap, ap₂, ◌∙◌}
use mathlib.Core.Bool.{true}
use mathlib.Core.List.{List, [], ◌∷◌, ◌++◌, map, append-nil}
use Rattle.lists.specs.Lists.{all, All}
use Rattle.octets.specs.Octets.{is_digit}
use Rattle.readers.specs.Words.{words, number_of, is_request_id}
use Rattle.readers.proofs.Words.{lacks, lacks_of, words_last, words_more}
use Rattle.writers.specs.Decimal.{digits}
use Rattle.writers.proofs.Digits.{digits_all, digits_number, id_written}
use Rattle.answer.specs.IdList.{behind_commas, id_list_text}

no_comma : (i : ℕ) → lacks 44 (digits i) ≡ true
no_comma i = lacks_of is_digit 44 (digits i) refl (digits_all i)

list_words : (i : ℕ) (is : List ℕ) → words 44 (digits i ++ behind_commas is) ≡ map digits (i ∷ is)
unfolding behind_commas
list_words i [] = rw append-nil (words_last 44 (digits i) (no_comma i))
list_words i (j ∷ is) = words_more 44 (digits i) (digits j ++ behind_commas is) (no_comma i) ∙ ap (◌∷◌ (digits i)) (list_words j is)

pub text_words : (i : ℕ) (is : List ℕ) → words 44 (id_list_text (i ∷ is)) ≡ map digits (i ∷ is)
unfolding id_list_text
text_words i is = list_words i is

pub numbers_back : (ids : List ℕ) → map number_of (map digits ids) ≡ ids
numbers_back [] = refl
numbers_back (i ∷ is) = ap₂ ◌∷◌ (digits_number i) (numbers_back is)

pub ids_written : (ids : List ℕ) → All (λ i. i < 4294967296) ids → all is_request_id (map digits ids) ≡ true
ids_written [] h = refl
ids_written (i ∷ is) h = rw (id_written i h.0) (ids_written is h.1)
