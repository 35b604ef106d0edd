-- A list of one or more ids in range, written as a field's value, is a legal list, and reading it gives those ids.
-- Assumes nothing.
use Prim.Native.Nat.{ℕ, ◌<◌}
use mathlib.Core.Path.{◌≡◌, ap, ◌∙◌}
use mathlib.Core.Bool.{true}
use mathlib.Core.List.{List, ◌∷◌, map}
use Rattle.lists.specs.Lists.{all, All}
use Rattle.readers.specs.Words.{number_of, is_request_id}
use Rattle.answer.specs.IdList.{is_id_list, ids_of, id_list_text}
use Rattle.answer.proofs.IdLists.{text_words, numbers_back, ids_written}

pub id_list_legal : (i : ℕ) (is : List ℕ) → All (λ i. i < 4294967296) (i ∷ is) → is_id_list (id_list_text (i ∷ is)) ≡ true
unfolding is_id_list
id_list_legal i is h = ap (all is_request_id) (text_words i is) ∙ ids_written (i ∷ is) h

pub id_list_back : (i : ℕ) (is : List ℕ) → ids_of (id_list_text (i ∷ is)) ≡ i ∷ is
unfolding ids_of
id_list_back i is = ap (map number_of) (text_words i is) ∙ numbers_back (i ∷ is)
