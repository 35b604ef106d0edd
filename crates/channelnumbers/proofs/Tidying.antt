-- What tidying leaves of the numbers of editions, which read as they did. Assumes nothing.
use Prim.Native.Nat.{ℕ, zero, suc, ◌+◌, ◌-◌, ◌*◌, ◌≤◌, ◌<◌}
use mathlib.Core.Path.{◌≡◌, refl, sym, ap, ap₂, subst, ◌∙◌}
use mathlib.Core.Bool.{true, false, false≢true}
use mathlib.Core.Option.{Option, none, some, some-injective}
use mathlib.Core.List.{List, [], ◌∷◌, ◌++◌, append_assoc, append-nil}
use native.Mathlib.Nat.{add-zero}
use native.Mathlib.Omega.{arith}
use lib.ListN.{length, take, drop, get_or, set, length-take, length-drop, drop_of_length-le}
use lib.Seq.{take-suc, take_all, drop-drop, take-paste, drop-paste, set-get_or, get_or-set_other, get_or-drop}
use borrow.Rule.Slice.PartMut.{mid_of, put_mid, post_of}
use Rattle.answer.specs.declared.Kind.{Kind}
use Rattle.synth.specs.Settings.{Name, kill_on_barge_in, fetch_timeout, no_input_timeout, confidence_threshold, sensitivity_level}
use Rattle.synth.specs.Settings.{settings, edition, unset}
use Rattle.synth.specs.declared.Setting.{Setting}
use Rattle.synth.specs.declared.Edition.{Edition}
use Rattle.channelnumbers.specs.Steps.{Stored, value_kept}
use Rattle.channelnumbers.specs.Numbers.{sort_number, value_number, edition_numbers, editions_numbers, editions_part}
use Rattle.channelnumbers.specs.Numbers.{setting_at, with_setting, edition_from, joining, editions_from}
use Rattle.channelnumbers.proofs.Saving.{stored_none, stored_next, stored_same, editions_length, edition_more}
use Rattle.channelnumbers.proofs.Saving.{zeros}

-- ---- one edition

-- the sort and the value that is kept are the numbers of the setting that stands there
abbrev KeptAt : ℕ → ℕ → Option Setting → Type 0
KeptAt sort value none = Unit {0}
KeptAt sort value (some x) = (sort ≡ sort_number x) × (value_kept sort value ≡ value_number x)

setting_kept_lem : (sort value : ℕ) → KeptAt sort value (setting_at sort value)
setting_kept_lem zero value = (refl, refl)
setting_kept_lem (suc zero) zero = (refl, refl)
setting_kept_lem (suc zero) (suc zero) = (refl, refl)
setting_kept_lem (suc zero) (suc (suc n)) = tt
setting_kept_lem (suc (suc zero)) value = (refl, refl)
setting_kept_lem (suc (suc (suc zero))) value = (refl, refl)
setting_kept_lem (suc (suc (suc (suc n)))) value = tt

none_some : {e : Edition} → ◌≡◌ {A = Option Edition} none (some e) → ⊥
none_some p = false≢true (ap (λ (o : Option Edition). elim o [ none ↦ false | some e ↦ true ]) p)

two_kept : (s v t u : ℕ) (a b : Option Setting) → KeptAt s v a → KeptAt t u b → (e : Edition)
    → with_setting kill_on_barge_in a (with_setting fetch_timeout b (some unset)) ≡ some e
    → s ∷ value_kept s v ∷ t ∷ value_kept t u ∷ 0 ∷ 0 ∷ [] ≡ edition_numbers Kind.Synthesizer e
two_kept s v t u none b p q e h = absurd (none_some h)
two_kept s v t u (some x) none p q e h = absurd (none_some h)
two_kept s v t u (some x) (some y) p q e h =
    (λ i. p.0 i ∷ p.1 i ∷ q.0 i ∷ q.1 i ∷ 0 ∷ 0 ∷ [])
    ∙ ap (edition_numbers Kind.Synthesizer)
    (some-injective (edition x y Setting.Unset Setting.Unset Setting.Unset) e h)

three_kept : (s v t u m n : ℕ) (a b c : Option Setting) → KeptAt s v a → KeptAt t u b → KeptAt m n c → (e : Edition)
    → with_setting no_input_timeout a (with_setting confidence_threshold b (with_setting sensitivity_level c (some unset)))
    ≡ some e
    → s ∷ value_kept s v ∷ t ∷ value_kept t u ∷ m ∷ value_kept m n ∷ [] ≡ edition_numbers Kind.Recognizer e
three_kept s v t u m n none b c p q r e h = absurd (none_some h)
three_kept s v t u m n (some x) none c p q r e h = absurd (none_some h)
three_kept s v t u m n (some x) (some y) none p q r e h = absurd (none_some h)
three_kept s v t u m n (some x) (some y) (some z) p q r e h =
    (λ i. p.0 i ∷ p.1 i ∷ q.0 i ∷ q.1 i ∷ r.0 i ∷ r.1 i ∷ [])
    ∙ ap (edition_numbers Kind.Recognizer) (some-injective (edition Setting.Unset Setting.Unset x y z) e h)

-- what stands in w where another number was stored
module _ (w : List ℕ) (at b : ℕ) where
  past : (k : ℕ) → 1 < k → get_or (set w (at + 1) b) (at + k) 0 ≡ get_or w (at + k) 0
  past k h = get_or-set_other w (at + 1) (at + k) b 0 (λ p. omega (arith, h, p))

  past_two : (d k : ℕ) → 3 < k → get_or (set (set w (at + 1) b) (at + 3) d) (at + k) 0 ≡ get_or w (at + k) 0
  past_two d k h =
      get_or-set_other (set w (at + 1) b) (at + 3) (at + k) d 0 (λ p. omega (arith, h, p)) ∙ past k (omega arith)

  -- the three values, or two and zeros, are stored among the sorts
  tidied : (d e f : ℕ) → length w ≡ 89 → at ≤ 83
      → Stored w at (get_or w at 0 ∷ b ∷ get_or w (at + 2) 0 ∷ d ∷ e ∷ f ∷ []) 6
      (set (set (set (set w (at + 1) b) (at + 3) d) (at + 4) e) (at + 5) f)
  tidied d e f long room =
      stored_next (at + 5) f refl (omega arith) (omega arith)
      (stored_next (at + 4) e refl (omega arith) (omega arith)
      (stored_next (at + 3) d refl (omega arith) (omega arith)
      (stored_same (at + 2) refl (omega arith) (omega arith)
      (stored_next (at + 1) b refl (omega arith) (omega arith)
      (stored_same {at = at} at (sym (add-zero at)) (omega arith) (omega arith)
      (stored_none w at (get_or w at 0 ∷ b ∷ get_or w (at + 2) 0 ∷ d ∷ e ∷ f ∷ []) long) refl) refl) (past 2 (omega arith)))
      refl) refl) refl

-- the numbers of the edition that is read there
module _ (w : List ℕ) (at b d : ℕ) (room : at ≤ 83)
    (first : b ≡ value_kept (get_or w at 0) (get_or w (at + 1) 0))
    (second : d ≡ value_kept (get_or (set w (at + 1) b) (at + 2) 0) (get_or (set w (at + 1) b) (at + 3) 0)) (e : Edition) where
  second_is : d ≡ value_kept (get_or w (at + 2) 0) (get_or w (at + 2 + 1) 0)
  second_is =
      let three : at + 3 ≡ at + 2 + 1 = omega arith in
      second ∙ ap₂ value_kept (past w at b 2 (omega arith)) (past w at b 3 (omega arith) ∙ ap (λ (k : ℕ). get_or w k 0) three)

  pub synthesizer_tidied : length w ≡ 89 → edition_from (settings Kind.Synthesizer) at w ≡ some e
      → Stored w at (edition_numbers Kind.Synthesizer e) 6
      (set (set (set (set w (at + 1) b) (at + 3) d) (at + 4) 0) (at + 5) 0)
  synthesizer_tidied long h =
      let s : ℕ = get_or w at 0 in
      let t : ℕ = get_or w (at + 2) 0 in
      let v : ℕ = get_or w (at + 1) 0 in
      let u : ℕ = get_or w (at + 2 + 1) 0 in
      subst (λ (l : List ℕ). Stored w at l 6 (set (set (set (set w (at + 1) b) (at + 3) d) (at + 4) 0) (at + 5) 0))
      ((λ i. s ∷ first i ∷ t ∷ second_is i ∷ 0 ∷ 0 ∷ [])
      ∙ two_kept s v t u (setting_at s v) (setting_at t u) (setting_kept_lem s v) (setting_kept_lem t u) e h)
      (tidied w at b d 0 0 long room)

  abbrev before : List ℕ
  before = set (set w (at + 1) b) (at + 3) d

  pub recognizer_tidied : (f : ℕ) → f ≡ value_kept (get_or before (at + 4) 0) (get_or before (at + 5) 0)
      → length w ≡ 89 → edition_from (settings Kind.Recognizer) at w ≡ some e
      → Stored w at (edition_numbers Kind.Recognizer e) 6 (set before (at + 5) f)
  recognizer_tidied f third long h =
      let s : ℕ = get_or w at 0 in
      let t : ℕ = get_or w (at + 2) 0 in
      let m : ℕ = get_or w (at + 2 + 2) 0 in
      let v : ℕ = get_or w (at + 1) 0 in
      let u : ℕ = get_or w (at + 2 + 1) 0 in
      let n : ℕ = get_or w (at + 2 + 2 + 1) 0 in
      let four : at + 4 ≡ at + 2 + 2 = omega arith in
      let five : at + 5 ≡ at + 2 + 2 + 1 = omega arith in
      let sort : get_or before (at + 4) 0 ≡ m = past_two w at b d 4 (omega arith) ∙ ap (λ (k : ℕ). get_or w k 0) four in
      let value : get_or before (at + 5) 0 ≡ n = past_two w at b d 5 (omega arith) ∙ ap (λ (k : ℕ). get_or w k 0) five in
      let third-is : f ≡ value_kept m n = third ∙ ap₂ value_kept sort value in
      let stored : Stored w at (s ∷ b ∷ t ∷ d ∷ get_or before (at + 4) 0 ∷ f ∷ []) 6 (set before (at + 5) f) =
      subst (λ (l : List ℕ). Stored w at (s ∷ b ∷ t ∷ d ∷ get_or before (at + 4) 0 ∷ f ∷ []) 6 (set l (at + 5) f))
      (set-get_or before (at + 4) 0) (tidied w at b d (get_or before (at + 4) 0) f long room) in
      subst (λ (l : List ℕ). Stored w at l 6 (set before (at + 5) f))
      ((λ i. s ∷ first i ∷ t ∷ second_is i ∷ sort i ∷ third-is i ∷ [])
      ∙ three_kept s v t u m n (setting_at s v) (setting_at t u) (setting_at m n) (setting_kept_lem s v) (setting_kept_lem t u)
      (setting_kept_lem m n) e h)
      stored

-- ---- editions that are read

moved : (w : List ℕ) (at k j : ℕ) → get_or w (at + k + j) 0 ≡ get_or w (at + (k + j)) 0
moved w at k j = let e : at + k + j ≡ at + (k + j) = omega arith in ap (λ (m : ℕ). get_or w m 0) e

-- equal numbers read as the same settings
pub edition_as : (ns : List Name) (at to : ℕ) (w v : List ℕ)
    → ((j : ℕ) → j < length ns * 2 → get_or w (at + j) 0 ≡ get_or v (to + j) 0) → edition_from ns at w ≡ edition_from ns to v
edition_as [] at to w v same = refl
edition_as (n ∷ ns) at to w v same =
    let here : get_or w at 0 ≡ get_or v to 0 =
    ap (λ (k : ℕ). get_or w k 0) (sym (add-zero at)) ∙ same 0 (omega arith) ∙ ap (λ (k : ℕ). get_or v k 0) (add-zero to) in
    ap₂ (with_setting n) (ap₂ setting_at here (same 1 (omega arith)))
    (edition_as ns (at + 2) (to + 2) w v (λ j h. moved w at 2 j ∙ same (2 + j) (omega (arith, h)) ∙ sym (moved v to 2 j)))

module _ (kind : Kind) where
  settings_six : length (settings kind) * 2 ≤ 6
  settings_six = go kind
    where
      go : (k : Kind) → length (settings k) * 2 ≤ 6
      go Kind.Synthesizer = omega arith
      go Kind.Recognizer = omega arith

  pub editions_as : (n at to : ℕ) (w v : List ℕ) → ((j : ℕ) → j < n * 6 → get_or w (at + j) 0 ≡ get_or v (to + j) 0)
      → editions_from kind at n w ≡ editions_from kind to n v
  editions_as zero at to w v same = refl
  editions_as (suc n) at to w v same =
      ap₂ joining (edition_as (settings kind) at to w v (λ j h. same j (omega (arith, h, settings_six))))
      (editions_as n (at + 6) (to + 6) w v (λ j h. moved w at 6 j ∙ same (6 + j) (omega (arith, h)) ∙ sym (moved v to 6 j)))

none_list : {es : List Edition} → ◌≡◌ {A = Option (List Edition)} none (some es) → ⊥
none_list p = false≢true (ap (λ (o : Option (List Edition)). elim o [ none ↦ false | some es ↦ true ]) p)

record Joined (o : Option Edition) (os : Option (List Edition)) (es : List Edition) : Type 0 where
  first : Edition
  rest : List Edition
  here : o ≡ some first
  others : os ≡ some rest
  whole : first ∷ rest ≡ es

joined : (o : Option Edition) (os : Option (List Edition)) (es : List Edition) → joining o os ≡ some es → Joined o os es
joined none os es h = absurd (none_list h)
joined (some e) none es h = absurd (none_list h)
joined (some e) (some l) es h =
    record { first = e; rest = l; here = refl; others = refl; whole = some-injective (e ∷ l) es h }

module _ (kind : Kind) (w : List ℕ) where
  abbrev from : ℕ → Option Edition
  from at = edition_from (settings kind) at w

  pub editions_many : (n at : ℕ) (es : List Edition) → editions_from kind at n w ≡ some es → length es ≡ n
  editions_many zero at es h = ap length (sym (some-injective [] es h))
  editions_many (suc n) at es h =
      let j = joined (from at) (editions_from kind (at + 6) n w) es h in
      ap length (sym j.whole) ∙ ap suc (editions_many n (at + 6) j.rest j.others)

  edition_at_lem : (n i at : ℕ) (es : List Edition) → i < n → editions_from kind at n w ≡ some es
      → from (at + i * 6) ≡ some (get_or es i unset)
  edition_at_lem zero i at es l h = absurd (omega (arith, l))
  edition_at_lem (suc n) zero at es l h =
      let j = joined (from at) (editions_from kind (at + 6) n w) es h in
      let place : at + 0 * 6 ≡ at = omega arith in
      ap from place ∙ j.here ∙ ap (λ (l : List Edition). some (get_or l 0 unset)) j.whole
  edition_at_lem (suc n) (suc i) at es l h =
      let j = joined (from at) (editions_from kind (at + 6) n w) es h in
      let place : at + suc i * 6 ≡ at + 6 + i * 6 = omega arith in
      ap from place
      ∙ edition_at_lem n i (at + 6) j.rest (omega (arith, l)) j.others
      ∙ ap (λ (l : List Edition). some (get_or l (suc i) unset)) j.whole

  -- the first k of them
  pub first_from : (k n at : ℕ) (es : List Edition) → k ≤ n → editions_from kind at n w ≡ some es
      → editions_from kind at k w ≡ some (take k es)
  first_from zero n at es l h = refl
  first_from (suc k) zero at es l h = absurd (omega (arith, l))
  first_from (suc k) (suc n) at es l h =
      let j = joined (from at) (editions_from kind (at + 6) n w) es h in
      ap₂ joining j.here (first_from k n (at + 6) j.rest (omega (arith, l)) j.others)
      ∙ ap (λ (l : List Edition). some (take (suc k) l)) j.whole

-- ---- all of them

module _ (kind : Kind) (w : List ℕ) (es : List Edition) (n : ℕ) (read : editions_from kind 65 n w ≡ some es)
    (few : n ≤ 4) where
  abbrev numbers : List ℕ
  numbers = editions_numbers kind es

  size : length numbers ≡ n * 6
  size = editions_length kind es ∙ ap (λ (k : ℕ). k * 6) (editions_many kind w n 65 es read)

  -- one more: it stands behind those that are tidied as it did
  pub tidied_more : {ws after : List ℕ} {i : ℕ} → i < n → Stored w 65 numbers (i * 6) ws
      → ((e : Edition) → edition_from (settings kind) (65 + i * 6) ws ≡ some e
      → Stored ws (65 + i * 6) (edition_numbers kind e) 6 after) → Stored w 65 numbers ((i + 1) * 6) after
  tidied_more {ws} {after} {i} h s t =
      let many = editions_many kind w n 65 es read in
      let at : ℕ = 65 + i * 6 in
      let behind : drop at ws ≡ drop at w =
      ap (drop at) s.pasted ∙ drop-paste w 65 numbers (i * 6) (omega (arith, s.long)) (omega (arith, size)) in
      let same : edition_from (settings kind) at ws ≡ some (get_or es i unset) =
      edition_as (settings kind) at at ws w
      (λ j l. sym (get_or-drop at ws j 0) ∙ ap (λ (r : List ℕ). get_or r j 0) behind ∙ get_or-drop at w j 0)
      ∙ edition_at_lem kind w n i 65 es h read in
      edition_more kind es (omega (arith, many)) (omega (arith, many)) s (t (get_or es i unset) same)

  -- zeros behind them
  pub all_tidied : {mid ws : List ℕ} (at : ℕ) → at ≡ 65 + n * 6 → get_or w 64 0 ≡ n → Stored w 65 numbers (n * 6) mid
      → ws ≡ take at mid ++ zeros (89 - at) → ws ≡ take 64 w ++ editions_part kind es
  all_tidied {mid} {ws} at place count s t =
      let count_is : get_or w 64 0 ≡ length es = count ∙ sym (editions_many kind w n 65 es read) in
      let front : take at mid ≡ take 64 w ++ (length es ∷ []) ++ numbers =
      ap₂ take place s.pasted
      ∙ take-paste w 65 numbers (n * 6) (omega (arith, s.long)) (omega (arith, size))
      ∙ ap₂ (λ (p q : List ℕ). p ++ q)
      (take-suc w 64 0 (omega (arith, s.long)) ∙ ap (λ (k : ℕ). take 64 w ++ k ∷ []) count_is)
      (take_all (n * 6) numbers (omega (arith, size))) in
      let pad : 89 - at ≡ 24 - length numbers = omega (arith, size) in
      t
      ∙ ap₂ (λ (p : List ℕ) (k : ℕ). p ++ zeros k) front pad
      ∙ append_assoc (take 64 w ++ length es ∷ []) numbers (zeros (24 - length numbers))
      ∙ append_assoc (take 64 w) (length es ∷ []) (numbers ++ zeros (24 - length numbers))

-- the zeros that fill what is behind
pub zeros_behind : (at : ℕ) (mid ys : List ℕ) → length mid ≡ 89 → at ≤ 89 → ys ≡ zeros (length (mid_of at (89 - at) mid))
    → put_mid at (89 - at) mid ys ≡ take at mid ++ zeros (89 - at)
zeros_behind at mid ys long room e =
    let many : length (mid_of at (89 - at) mid) ≡ 89 - at = simp (length-take, length-drop) (omega (arith, long)) in
    let nothing : post_of at (89 - at) mid ≡ [] = drop-drop (89 - at) at mid ∙ drop_of_length-le mid {i = at + (89 - at)} (omega (arith, long)) in
    ap₂ (λ (l r : List ℕ). take at mid ++ (l ++ r)) (e ∙ ap zeros many) nothing ∙ ap (λ (l : List ℕ). take at mid ++ l) (append-nil (zeros (89 - at)))
