-- Which of some ids a list names.
use Rattle.std.specs.Prelude.{ℕ, suc, ◌+◌, ◌^◌, Bool, true, false, ◌&&◌, List, [], ◌∷◌, leb, take, Option, Some, None}
use Rattle.lists.specs.Lists.{elem}
use Rattle.answer.specs.IdList.{is_id_list, ids_of}

abbrev pub bit_where : Bool → ℕ → ℕ
bit_where true j = 2 ^ j
bit_where false j = 0

-- bit j, and those after it, for the ids that are among `listed`
abbrev pub bits_from : ℕ → List ℕ → List ℕ → ℕ
bits_from j listed [] = 0
bits_from j listed (id ∷ ids) = bit_where (elem id listed) j + bits_from (suc j) listed ids

-- digits that number `count` and write `value` are a request-id, where they are at most ten
abbrev pub in_range : ℕ → ℕ → Bool
in_range value count = leb 1 count && leb value 4294967295

unfoldable pub named_in : List ℕ → List ℕ → Option ℕ
named_in v ids = elim (is_id_list v) [ true ↦ Some (bits_from 0 (ids_of v) (take 64 ids)) | false ↦ None ]
