-- One pass over a value finds what cutting it at its commas finds: what is left of the pass equals the whole, for each word begun.
-- Assumes nothing.
use Prim.Native.Nat.{ℕ, zero, suc, ◌+◌, ◌*◌, ◌-◌, ◌≤◌, ◌<◌, min}
use native.Mathlib.Nat.{min-zero, zero-min, suc-min-suc, add-zero, zero-add}
use native.Mathlib.Omega.{arith}
use mathlib.Core.Path.{◌≡◌, refl, sym, ap, ap₂, ◌∙◌}
use mathlib.Core.Bool.{Bool, true, false, ◌&&◌, and-false}
use mathlib.Core.List.{List, [], ◌∷◌, ◌++◌, map, append_assoc, append-nil}
use mathlib.Core.Logic.{◌≢◌}
use lib.Bits.{bit_or}
use lib.Dec.{eqb, leb, lit≤}
use lib.ListN.{length, take, drop, get_or, length-append, length-drop, drop_of_length-le}
use lib.Seq.{drop-drop, get_or-drop}
use borrow.Author.Tests.{eqb-true, eqb-false, eq-eqb, ne_eqb, le-leb, lt-leb}
use Rattle.lists.specs.Lists.{all, run}
use Rattle.lists.proofs.Scans.{all_append}
use Rattle.lists.proofs.Tests.{choose}
use Rattle.octets.specs.Octets.{is_digit}
use Rattle.readers.specs.Words.{words, onto, decimal, number_of, is_request_id}
use Rattle.readers.proofs.Positions.{apart, here}
use Rattle.readers.proofs.Words.{begun, begun_onto, begun_none, decimal_append}
use Rattle.digits.specs.Steps.{digits_at}
use Rattle.digits.specs.declared.Digits.{Digits}
use Rattle.digits.proofs.Numerals.{counts, writes, room as digits_room, one_too_many}
use Rattle.answer.specs.IdList.{is_id_list, ids_of}
use Rattle.idlist.specs.Named.{bits_from, in_range, named_in}
use Rattle.std.proofs.Common.{Option, Some, None}
use Rattle.idlist.proofs.Marks.{none_named, or_bits}

-- ---- when a word is an id

first_wrong : (w : List ℕ) (ws : List (List ℕ)) → ((u : List ℕ) → is_request_id (w ++ u) ≡ false) → all is_request_id (begun w ws) ≡ false
first_wrong w [] f = rw (ap is_request_id (sym (append-nil w)) ∙ f [])
first_wrong w (u ∷ us) f = rw (f u)

not_all : (w u : List ℕ) (x : ℕ) → is_digit x ≡ false → all is_digit (w ++ x ∷ u) ≡ false
not_all [] u x e = rw e
not_all (y ∷ w) u x e = rw (not_all w u x e, and-false)

no_id : (w u : List ℕ) (x : ℕ) → is_digit x ≡ false → is_request_id ((w ++ x ∷ []) ++ u) ≡ false
no_id w u x e = rw (append_assoc w (x ∷ []) u, not_all w u x e, and-false)

too_long : (w u : List ℕ) → 10 < length w → is_request_id (w ++ u) ≡ false
too_long w u h = rw (lt-leb (length (w ++ u)) 10 (omega (arith, length-append w u)), and-false)

-- a word of at most ten digits
whole_word : (w : List ℕ) → all is_digit w ≡ true → length w ≤ 10 → is_request_id w ≡ in_range (number_of w) (length w)
whole_word w a h = rw (a, le-leb (length w) 10 h) (go (leb 1 (length w)))
  where
    go : (b : Bool) → b && true && true && leb (number_of w) 4294967295 ≡ b && leb (number_of w) 4294967295
    go true = refl
    go false = refl

-- ---- the pass

module _ (ids : List ℕ) where
  -- the places of those listed
  abbrev pub found : List ℕ → ℕ
  found l = bits_from 0 l (take 64 ids)

  -- what is left of the pass: bits found so far, value and count of the digits since the last comma, bytes left
  abbrev left : ℕ → ℕ → ℕ → List ℕ → Option ℕ
  left bits value count [] = elim (in_range value count) [ true ↦ Some (bit_or bits (found (value ∷ []))) | false ↦ None ]
  left bits value count (x ∷ s) = elim (eqb x 44) [
    | true ↦ elim (in_range value count) [ true ↦ left (bit_or bits (found (value ∷ []))) 0 0 s | false ↦ None ]
    | false ↦ elim (is_digit x) [
      | true ↦ elim (eqb count 10) [ true ↦ None | false ↦ left bits (value * 10 + (x - 48)) (count + 1) s ]
      | false ↦ None
    ]
  ]

  -- what the words say, where the ids of l were found before them
  abbrev outcome : List ℕ → List (List ℕ) → Option ℕ
  outcome l ws = elim (all is_request_id ws) [ true ↦ Some (found (l ++ map number_of ws)) | false ↦ None ]

  wrong : (l : List ℕ) (ws : List (List ℕ)) → all is_request_id ws ≡ false → None ≡ outcome l ws
  wrong l ws e = rw (e, outcome)

  last : (l w : List ℕ) (c : Bool) → is_request_id w ≡ c
      → elim c [ true ↦ Some (bit_or (found l) (found (number_of w ∷ []))) | false ↦ None ] ≡ outcome l (w ∷ [])
  last l w true e = rw (e, outcome) (ap Some (or_bits l (number_of w ∷ []) (take 64 ids)))
  last l w false e = rw (e, outcome)

  word : (l w : List ℕ) (ws : List (List ℕ)) → is_request_id w ≡ true → outcome (l ++ number_of w ∷ []) ws ≡ outcome l (w ∷ ws)
  word l w ws e =
      ap (λ m. elim (all is_request_id ws) [ true ↦ Some (found m) | false ↦ None ]) (append_assoc l (number_of w ∷ []) (map number_of ws))
      ∙ rw (e, outcome)

  comma : (l w s : List ℕ) (c : Bool) → is_request_id w ≡ c
      → left (found (l ++ number_of w ∷ [])) 0 0 s ≡ outcome (l ++ number_of w ∷ []) (begun [] (words 44 s))
      → elim c [ true ↦ left (bit_or (found l) (found (number_of w ∷ []))) 0 0 s | false ↦ None ] ≡ outcome l (w ∷ words 44 s)
  comma l w s true e more =
      ap (λ b. left b 0 0 s) (or_bits l (number_of w ∷ []) (take 64 ids))
      ∙ more
      ∙ ap (outcome (l ++ number_of w ∷ [])) (begun_none 44 s)
      ∙ word l w (words 44 s) e
  comma l w s false e more = wrong l (w ∷ words 44 s) (rw e)

  -- what a digit more gives, and what it has to give
  abbrev goes_on_lem : List ℕ → List ℕ → List ℕ → ℕ → Option ℕ
  goes_on_lem l w s x = left (found l) (number_of w * 10 + (x - 48)) (length w + 1) s

  abbrev due : List ℕ → List ℕ → List ℕ → ℕ → Option ℕ
  due l w s x = outcome l (begun (w ++ x ∷ []) (words 44 s))

  full : (l w s : List ℕ) (x : ℕ) (c : Bool) → eqb (length w) 10 ≡ c → (length w ≢ 10 → goes_on_lem l w s x ≡ due l w s x)
      → elim c [ true ↦ None | false ↦ goes_on_lem l w s x ] ≡ due l w s x
  full l w s x true e more =
      let ten : length w ≡ 10 = eqb-true (length w) 10 e in
      wrong l (begun (w ++ x ∷ []) (words 44 s))
      (first_wrong (w ++ x ∷ []) (words 44 s) (λ u. too_long (w ++ x ∷ []) u (omega (arith, length-append w (x ∷ [])))))
  full l w s x false e more = more (eqb-false (length w) 10 e)

  other : (l w s : List ℕ) (x : ℕ) (d : Bool) → is_digit x ≡ d → (length w ≢ 10 → is_digit x ≡ true → goes_on_lem l w s x ≡ due l w s x)
      → elim d [ true ↦ elim (eqb (length w) 10) [ true ↦ None | false ↦ goes_on_lem l w s x ] | false ↦ None ] ≡ due l w s x
  other l w s x true e more = full l w s x (eqb (length w) 10) refl (λ k. more k e)
  other l w s x false e more =
      wrong l (begun (w ++ x ∷ []) (words 44 s)) (first_wrong (w ++ x ∷ []) (words 44 s) (λ u. no_id w u x e))

  snoc : (l w s : List ℕ) (x : ℕ) → left (found l) (number_of (w ++ x ∷ [])) (length (w ++ x ∷ [])) s ≡ due l w s x → goes_on_lem l w s x ≡ due l w s x
  snoc l w s x more =
      ap₂ (λ v k. left (found l) v k s) (sym (decimal_append 0 w (x ∷ []))) (sym (length-append w (x ∷ []))) ∙ more

  -- a word that began with the digits w, after the ids of l
  pass : (s l w : List ℕ) → all is_digit w ≡ true → length w ≤ 10 → left (found l) (number_of w) (length w) s ≡ outcome l (begun w (words 44 s))
  pass [] l w a h =
      last l w (in_range (number_of w) (length w)) (whole_word w a h) ∙ ap (λ u. outcome l (u ∷ [])) (sym (append-nil w))
  pass (x ∷ s) l w a h =
      go (eqb x 44) (pass s (l ++ number_of w ∷ []) [] refl (omega arith))
      (λ k d. snoc l w s x (pass s l (w ++ x ∷ []) (all_append is_digit w (x ∷ []) a (rw d)) (omega (arith, length-append w (x ∷ []), k))))
    where
      go : (b : Bool) → left (found (l ++ number_of w ∷ [])) 0 0 s ≡ outcome (l ++ number_of w ∷ []) (begun [] (words 44 s))
          → (length w ≢ 10 → is_digit x ≡ true → goes_on_lem l w s x ≡ due l w s x)
          → elim b [
            | true ↦ elim (in_range (number_of w) (length w)) [
              | true ↦ left (bit_or (found l) (found (number_of w ∷ []))) 0 0 s
              | false ↦ None
            ]
            | false ↦ elim (is_digit x) [ true ↦ elim (eqb (length w) 10) [ true ↦ None | false ↦ goes_on_lem l w s x ] | false ↦ None ]
          ] ≡ outcome l (begun w (elim b [ true ↦ [] ∷ words 44 s | false ↦ onto x (words 44 s) ]))
      go true more next =
          comma l w s (in_range (number_of w) (length w)) (whole_word w a h) more
          ∙ ap (λ u. outcome l (u ∷ words 44 s)) (sym (append-nil w))
      go false more next = other l w s x (is_digit x) refl next ∙ ap (outcome l) (sym (begun_onto w x (words 44 s)))

  whole : (v : List ℕ) → left 0 0 0 v ≡ named_in v ids
  unfolding named_in is_id_list ids_of
  whole v =
      ap (λ b. left b 0 0 v) (sym (none_named (take 64 ids))) ∙ pass v [] [] refl (omega arith) ∙ ap (outcome []) (begun_none 44 v)

-- ---- a word at once

module _ (ids : List ℕ) (bits : ℕ) where
  -- what is left behind k bytes that are digits
  abbrev past : ℕ → ℕ → List ℕ → ℕ → Option ℕ
  past value count s k = left ids bits (decimal value (take k s)) (count + k) (drop k s)

  one_digit : (value count x : ℕ) (s : List ℕ) → is_digit x ≡ true → count ≢ 10
      → left ids bits value count (x ∷ s) ≡ left ids bits (value * 10 + (x - 48)) (count + 1) s
  one_digit value count x s e h = rw (apart is_digit 44 x refl e, e, ne_eqb count 10 h, left)

  -- the digits that come, at most n, where n more may stand in the word
  digits_left : (n value count : ℕ) (s : List ℕ) → count + n ≡ 10
      → left ids bits value count s ≡ past value count s (min (run is_digit s) n)
  digits_left zero value count s h = rw (min-zero (run is_digit s), add-zero)
  digits_left (suc n) value count [] h = rw (zero-min (suc n), add-zero)
  digits_left (suc n) value count (x ∷ s) h =
      let k = min (run is_digit s) n in
      let w = value * 10 + (x - 48) in
      choose (λ m. left ids bits value count (x ∷ s) ≡ past value count (x ∷ s) (min m (suc n))) (is_digit x)
      (λ e.
      one_digit value count x s e (λ t. omega arith)
      ∙ digits_left n w (count + 1) s (omega arith)
      ∙ ap (λ c. left ids bits (decimal w (take k s)) c (drop k s)) (omega arith)
      ∙ ap (past value count (x ∷ s)) (sym (suc-min-suc (run is_digit s) n)))
      (λ e. rw (zero-min (suc n), add-zero))

  -- behind the digits of a word that is no id, nothing makes it one; nor does anything but a comma end one
  module _ (value count : ℕ) where
    no_id_left : (s : List ℕ) → in_range value count ≡ false → (is_digit (get_or s 0 0) ≡ true → count ≡ 10)
        → left ids bits value count s ≡ None
    no_id_left [] q full = rw (q, left)
    no_id_left (x ∷ s) q full =
        choose (λ w. w ≡ None) (eqb x 44) (λ e. rw q) (λ e.
        choose (λ w. w ≡ None) (is_digit x) (λ d. rw (eq-eqb count 10 (full d))) (λ d. refl))

    no_comma_left : (x : ℕ) (s : List ℕ) → x ≢ 44 → (is_digit x ≡ true → count ≡ 10)
        → left ids bits value count (x ∷ s) ≡ None
    no_comma_left x s c full =
        choose (λ w. w ≡ None) (eqb x 44) (λ e. absurd (c (eqb-true x 44 e))) (λ e.
        choose (λ w. w ≡ None) (is_digit x) (λ d. rw (eq-eqb count 10 (full d))) (λ d. refl))

-- ---- each way that the code goes

-- a word begins at i: what is left of the pass is the whole
pub record Midway (ids v : List ℕ) (bits i : ℕ) : Type 0 where
  pub same : left ids bits 0 0 (drop i v) ≡ named_in v ids

pub started : (ids v : List ℕ) → Midway ids v 0 0
started ids v = record { same = whole ids v }

-- where the digits d were read
module _ {ids v : List ℕ} {bits i : ℕ} (m : Midway ids v bits i) (d : Digits) (e : d ≡ digits_at 10 (drop i v)) where
  abbrev end : ℕ
  end = i + d.count

  behind : left ids bits d.value d.count (drop end v) ≡ named_in v ids
  behind =
      let s = drop i v in
      let k = d.count in
      ap₂ (λ a l. left ids bits a k l) (writes 10 (lit≤ tt) s d e) (sym (drop-drop k i v))
      ∙ ap (λ c. left ids bits (number_of (take k s)) c (drop k s)) (sym (zero-add k))
      ∙ ap (past ids bits 0 0 s) (counts 10 (lit≤ tt) s d e)
      ∙ sym (digits_left ids bits 10 0 0 s refl)
      ∙ m.same

  -- a digit behind them is the eleventh
  tenth : is_digit (get_or v end 0) ≡ true → d.count ≡ 10
  tenth h = one_too_many 10 (lit≤ tt) (drop i v) d e (ap is_digit (get_or-drop i v d.count 0) ∙ h)

  pub room : i ≤ length v → end ≤ length v
  room h = omega (arith, digits_room 10 (lit≤ tt) (drop i v) d e, length-drop i v)

  pub no_comma : end < length v → get_or v end 0 ≢ 44 → None ≡ named_in v ids
  no_comma h c =
      sym (no_comma_left ids bits d.value d.count (get_or v end 0) (drop (end + 1) v) c tenth)
      ∙ ap (left ids bits d.value d.count) (sym (here v end h))
      ∙ behind

  pub wrong_id : in_range d.value d.count ≡ false → None ≡ named_in v ids
  wrong_id n =
      sym (no_id_left ids bits d.value d.count (drop end v) n
      (λ h. tenth (ap is_digit (ap (λ k. get_or v k 0) (sym (add-zero end)) ∙ sym (get_or-drop end v 0 0)) ∙ h)))
      ∙ behind

  module _ (n : in_range d.value d.count ≡ true) {p : ℕ} (there : p ≡ found ids (d.value ∷ [])) where
    pub last_id : length v ≤ end → Some (bit_or bits p) ≡ named_in v ids
    last_id h = rw (there, ← behind, drop_of_length-le v h, n, left)

    pub next_id : end < length v → get_or v end 0 ≡ 44 → Midway ids v (bit_or bits p) (end + 1)
    next_id h c =
        let comma = eq-eqb (get_or v end 0) 44 c in
        record { same = rw (there, ← behind, here v end h, comma, n, left) }
