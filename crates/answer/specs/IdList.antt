-- A list of request-ids as a field's value has it: document 01, judgement 6 and "Bytes written".
use Rattle.std.specs.Prelude.{ℕ, Bool, List, [], ◌∷◌, ◌++◌, map}
use Rattle.lists.specs.Lists.{all}
use Rattle.octets.specs.Octets.{bytes}
use Rattle.readers.specs.Words.{words, number_of, is_request_id}
use Rattle.writers.specs.Decimal.{digits}

-- one or more ids joined by single commas, without blanks
unfoldable pub is_id_list : List ℕ → Bool
is_id_list v = all is_request_id (words 44 v)

-- the ids that such a value lists
unfoldable pub ids_of : List ℕ → List ℕ
ids_of v = map number_of (words 44 v)

-- each id with a comma before it
unfoldable pub behind_commas : List ℕ → List ℕ
behind_commas [] = []
behind_commas (i ∷ is) = bytes "," ++ digits i ++ behind_commas is

-- ids written as a value, without leading zeros
unfoldable pub id_list_text : List ℕ → List ℕ
id_list_text [] = []
id_list_text (i ∷ is) = digits i ++ behind_commas is
