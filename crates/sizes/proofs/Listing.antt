-- The list field as the pieces that the code writes, and how many bytes they have.
-- Assumes nothing.
use Prim.Native.Nat.{ℕ, ◌+◌, ◌≤◌, ◌<◌}
use native.Mathlib.Omega.{arith}
use mathlib.Core.Path.{◌≡◌, refl, sym, ap, ◌∙◌}
use mathlib.Core.List.{List, [], ◌∷◌, ◌++◌, append_assoc, append-nil}
use lib.ListN.{length, take, drop, get_or, length-append, take-append-drop}
use Rattle.std.proofs.lemmas.List.{take_more}
use Rattle.octets.specs.Octets.{bytes, crlf}
use Rattle.writers.specs.Decimal.{digits, width}
use Rattle.answer.specs.Written.{field_text, fields_text}
use Rattle.answer.specs.IdList.{behind_commas, id_list_text}
use Rattle.answer.specs.Answers.{active_request_id_list}

-- ---- ids behind commas

commas_append : (xs ys : List ℕ) → behind_commas (xs ++ ys) ≡ behind_commas xs ++ behind_commas ys
unfolding behind_commas
commas_append [] ys = refl
commas_append (x ∷ xs) ys = rw (commas_append xs ys) (sym (append_assoc (bytes "," ++ digits x) (behind_commas xs) (behind_commas ys)))

commas_one : (x : ℕ) → behind_commas (x ∷ []) ≡ bytes "," ++ digits x
unfolding behind_commas
commas_one x = append-nil (bytes "," ++ digits x)

module _ (ids : List ℕ) (i : ℕ) (h : i < length ids) where
  -- one id more
  pub commas_more : behind_commas (take (i + 1) ids) ≡ behind_commas (take i ids) ++ bytes "," ++ digits (get_or ids i 0)
  commas_more =
      ap behind_commas (take_more ids i 0 h)
      ∙ commas_append (take i ids) (get_or ids i 0 ∷ [])
      ∙ ap (λ (l : List ℕ). behind_commas (take i ids) ++ l) (commas_one (get_or ids i 0))
      ∙ sym (append_assoc (behind_commas (take i ids)) (bytes ",") (digits (get_or ids i 0)))

  pub commas_length : length (behind_commas (take (i + 1) ids)) ≡ length (behind_commas (take i ids)) + (1 + width (get_or ids i 0))
  commas_length = rw commas_more (simp length-append (omega arith))

  -- it ends within the whole
  pub commas_room : length (behind_commas (take i ids)) + (1 + width (get_or ids i 0)) ≤ length (behind_commas ids)
  commas_room =
      let e : behind_commas ids ≡ behind_commas (take (i + 1) ids) ++ behind_commas (drop (i + 1) ids) =
      ap behind_commas (sym (take-append-drop (i + 1) ids)) ∙ commas_append (take (i + 1) ids) (drop (i + 1) ids) in
      omega (arith, ap length e, length-append (behind_commas (take (i + 1) ids)) (behind_commas (drop (i + 1) ids)), commas_length)

-- ---- the field

pub list_none : (ids : List ℕ) → length ids ≡ 0 → fields_text (active_request_id_list ids) ≡ []
unfolding fields_text
list_none [] h = refl
list_none (i ∷ is) h = absurd (omega arith)

regroup : (n d b c : List ℕ) → n ++ d ++ b ++ c ≡ n ++ (d ++ b) ++ c ++ []
regroup n d b c = simp (append_assoc, append-nil)

module _ {all ids : List ℕ} {id : ℕ} (e : all ≡ id ∷ ids) where
  pub list_some : bytes "Active-Request-Id-List:" ++ digits id ++ behind_commas ids ++ crlf ≡ fields_text (active_request_id_list all)
  unfolding fields_text field_text id_list_text
  list_some = rw e (regroup (bytes "Active-Request-Id-List:") (digits id) (behind_commas ids) crlf)

  pub list_length : length (fields_text (active_request_id_list all)) ≡ 25 + width id + length (behind_commas ids)
  list_length = ap length (sym list_some) ∙ simp length-append (omega arith)
