-- Settings and editions by their numbers: which fit, and one turn of the loop that tests them. Assumes nothing.
use Prim.Native.Nat.{ℕ, zero, suc, ◌+◌, ◌*◌, ◌≤◌, ◌<◌}
use mathlib.Core.Path.{◌≡◌, refl, sym, ap, ap₂, ◌∙◌}
use mathlib.Core.Bool.{Bool, true, false, ◌&&◌, false≢true}
use mathlib.Core.Option.{Option, none, some}
use mathlib.Core.List.{List, ◌∷◌}
use native.Mathlib.Omega.{arith}
use lib.Dec.{eqb, leb, ltb}
use lib.Ieee.{binary32, to_bits}
use lib.ListN.{length, get_or}
use borrow.Author.Tests.{leb-true, leb-false, lt-ltb, le-ltb, eq-eqb, ne_eqb}
use Rattle.std.specs.Prelude.{Some, None}
use Rattle.lists.specs.Lists.{all}
use Rattle.lists.proofs.Tests.{both, refuted}
use Rattle.answer.specs.declared.Kind.{Kind}
use Rattle.synth.specs.Levels.{single}
use Rattle.synth.specs.Settings.{Sort, flag, millis, level, kill_on_barge_in, fetch_timeout, no_input_timeout, confidence_threshold, sensitivity_level, settings, edition, unset, is_kept, kept_as, is_edition_of, newest, edition_at}
use Rattle.synth.specs.Channel.{are_editions}
use Rattle.synth.specs.declared.Setting.{Setting}
use Rattle.synth.specs.declared.Edition.{Edition}
use Rattle.synth.proofs.Levels.{kept_most}
use Rattle.synth.proofs.Theorems.Editions.{not_kept}
use Rattle.settings.specs.Kept.{as_further}
use Rattle.channelnumbers.specs.Numbers.{flag_at, setting_at, with_setting, edition_from, joining, editions_from, editions_in}
use Rattle.loading.specs.Steps.{is_own, setting_kept, edition_kept, editions_kept, or_none, Read}

-- ---- a setting

far : (own end n v : ℕ) → own < n → is_own own end n v ≡ false
far own end n v h =
    ap (λ (b : Bool). elim b [ true ↦ ltb v end | false ↦ eqb n 0 ]) (ne_eqb n own (λ e. omega arith))
    ∙ ne_eqb n 0 (λ e. omega arith)

pub flag_kept : (n v : ℕ) → is_own 1 2 n v ≡ setting_kept flag (setting_at n v)
flag_kept zero v = refl
flag_kept (suc zero) zero = refl
flag_kept (suc zero) (suc zero) = refl
flag_kept (suc zero) (suc (suc v)) = le-ltb (suc (suc v)) 2 (omega arith)
flag_kept (suc (suc zero)) v = refl
flag_kept (suc (suc (suc zero))) v = refl
flag_kept (suc (suc (suc (suc n)))) v = far 1 2 (suc (suc (suc (suc n)))) v (omega arith)

no_flag : (s : Sort) (v : ℕ) → (s ≡ flag → ⊥) → setting_kept s (flag_at v) ≡ false
no_flag flag v h = absurd (h refl)
no_flag millis zero h = refl
no_flag millis (suc zero) h = refl
no_flag millis (suc (suc v)) h = refl
no_flag level zero h = refl
no_flag level (suc zero) h = refl
no_flag level (suc (suc v)) h = refl

pub millis_kept : (n v : ℕ) → is_own 2 10000000000000000000 n v ≡ setting_kept millis (setting_at n v)
millis_kept zero v = refl
millis_kept (suc zero) v = sym (no_flag millis v (λ e. let z : ◌≡◌ {A = ℕ} 0 1 = cc in omega arith))
millis_kept (suc (suc zero)) v = refl
millis_kept (suc (suc (suc zero))) v = refl
millis_kept (suc (suc (suc (suc n)))) v = far 2 _ (suc (suc (suc (suc n)))) v (omega arith)

level_fits : (v : ℕ) → ltb v 1000001 ≡ is_kept (record { millionths = v; single = single v })
unfolding is_kept
level_fits v = rw (eq-eqb (to_bits binary32 (single v)) (to_bits binary32 (single v)) refl) (go (leb v 1000000) refl)
  where
    go : (b : Bool) → leb v 1000000 ≡ b → ltb v 1000001 ≡ (leb v 1000000 && true)
    go true e = rw e (lt-ltb v 1000001 (omega (arith, leb-true v 1000000 e)))
    go false e = rw e (le-ltb v 1000001 (omega (arith, leb-false v 1000000 e)))

pub level_kept : (n v : ℕ) → is_own 3 1000001 n v ≡ setting_kept level (setting_at n v)
level_kept zero v = refl
level_kept (suc zero) v = sym (no_flag level v (λ e. let z : ◌≡◌ {A = ℕ} 0 1 = cc in omega arith))
level_kept (suc (suc zero)) v = refl
level_kept (suc (suc (suc zero))) v = level_fits v
level_kept (suc (suc (suc (suc n)))) v = far 3 1000001 (suc (suc (suc (suc n)))) v (omega arith)

level_most : (s : Sort) (v : ℕ) → kept_as s (Setting.Level (record { millionths = v; single = single v })) ≡ true → v ≤ 1000000
level_most flag v h = absurd (false≢true h)
level_most millis v h = absurd (false≢true h)
level_most level v h = kept_most (record { millionths = v; single = single v }) h

-- a setting of the last sort is a level
pub level_read : (n v : ℕ) (r : Setting) → (n ≡ 0 → ⊥) → (n ≡ 1 → ⊥) → (n ≡ 2 → ⊥) → (v ≤ 1000000 → setting_at 3 v ≡ some r)
    → Read (setting_at n v) r
level_read zero v r a b c e = absurd (a refl)
level_read (suc zero) v r a b c e = absurd (b refl)
level_read (suc (suc zero)) v r a b c e = absurd (c refl)
level_read (suc (suc (suc zero))) v r a b c e = λ s h. e (level_most s v h)
level_read (suc (suc (suc (suc n)))) v r a b c e = λ s h. absurd (false≢true h)

-- ---- an edition

abbrev two : Option Setting → Option Setting → Option Edition
two o p = with_setting kill_on_barge_in o (with_setting fetch_timeout p (some unset))

abbrev three : Option Setting → Option Setting → Option Setting → Option Edition
three o p q = with_setting no_input_timeout o (with_setting confidence_threshold p (with_setting sensitivity_level q (some unset)))

pub last_off : (a : Bool) → false ≡ (a && false)
last_off true = refl
last_off false = refl

two_kept : (o p : Option Setting) → edition_kept Kind.Synthesizer (two o p) ≡ (setting_kept flag o && setting_kept millis p)
two_kept none p = refl
two_kept (some x) none = last_off (kept_as flag x)
two_kept (some x) (some y) = go (kept_as flag x) (kept_as millis y)
  where
    go : (a b : Bool) → ((a && (b && true)) && true) ≡ (a && b)
    go true true = refl
    go true false = refl
    go false b = refl

three_kept : (o p q : Option Setting)
    → edition_kept Kind.Recognizer (three o p q) ≡ (setting_kept millis o && setting_kept level p && setting_kept level q)
three_kept none p q = refl
three_kept (some x) none q = go (kept_as millis x)
  where
    go : (a : Bool) → false ≡ (a && false && setting_kept level q)
    go true = refl
    go false = refl
three_kept (some x) (some y) none = last_off (kept_as millis x && kept_as level y)
three_kept (some x) (some y) (some z) = go (kept_as millis x) (kept_as level y) (kept_as level z)
  where
    go : (a b c : Bool) → ((a && (b && (c && true))) && true) ≡ (a && b && c)
    go true true true = refl
    go true true false = refl
    go true false c = refl
    go false b c = refl

-- what the tests of its settings come to, one behind the other, and what is read of them
module _ (at : ℕ) (ws : List ℕ) where
  abbrev number : ℕ → ℕ
  number k = get_or ws k 0

  abbrev here : ℕ → Option Setting
  here k = setting_at (number k) (number (k + 1))

  pub two_fit : edition_kept Kind.Synthesizer (two (here at) (here (at + 2)))
      ≡ (is_own 1 2 (number at) (number (at + 1)) && is_own 2 10000000000000000000 (number (at + 2)) (number (at + 2 + 1)))
  two_fit =
      two_kept (here at) (here (at + 2))
      ∙ ap₂ ◌&&◌ (sym (flag_kept (number at) _)) (sym (millis_kept (number (at + 2)) _))

  pub three_fit : edition_kept Kind.Recognizer (three (here at) (here (at + 2)) (here (at + 2 + 2)))
      ≡ (is_own 2 10000000000000000000 (number at) (number (at + 1)) && is_own 3 1000001 (number (at + 2)) (number (at + 2 + 1))
      && is_own 3 1000001 (number (at + 2 + 2)) (number (at + 2 + 2 + 1)))
  three_fit =
      three_kept (here at) (here (at + 2)) (here (at + 2 + 2))
      ∙ ap₂ ◌&&◌ (ap₂ ◌&&◌ (sym (millis_kept (number at) _)) (sym (level_kept (number (at + 2)) _))) (sym (level_kept (number (at + 2 + 2)) _))

  pub two_read : {x y : Setting} → Read (here at) x → Read (here (at + 2)) y
      → edition_kept Kind.Synthesizer (two (here at) (here (at + 2))) ≡ true
      → two (here at) (here (at + 2)) ≡ some (edition x y Setting.Unset Setting.Unset Setting.Unset)
  two_read r s h =
      let f = both (setting_kept flag (here at)) (setting_kept millis (here (at + 2))) (sym (two_kept (here at) (here (at + 2))) ∙ h) in
      ap₂ two (r flag f.0) (s millis f.1)

  pub three_read : {x y z : Setting} → Read (here at) x → Read (here (at + 2)) y → Read (here (at + 2 + 2)) z
      → edition_kept Kind.Recognizer (three (here at) (here (at + 2)) (here (at + 2 + 2))) ≡ true
      → three (here at) (here (at + 2)) (here (at + 2 + 2)) ≡ some (edition Setting.Unset Setting.Unset x y z)
  three_read {x} {y} r s t h =
      let o : Option Setting = here at in
      let p : Option Setting = here (at + 2) in
      let q : Option Setting = here (at + 2 + 2) in
      let f = both (setting_kept millis o && setting_kept level p) (setting_kept level q) (sym (three_kept o p q) ∙ h) in
      let g = both (setting_kept millis o) (setting_kept level p) f.0 in
      ap₂ (λ (a b : Option Setting). three a b q) (r millis g.0) (s level g.1)
      ∙ ap (three (some x) (some y)) (t level f.1)

-- ---- all of them

first_place : (at : ℕ) → at + 0 * 6 ≡ at
first_place at = omega arith

later_place : (at k : ℕ) → at + suc k * 6 ≡ at + 6 + k * 6
later_place at k = omega arith

abbrev Counted : ℕ → Option (List Edition) → Type 0
Counted n none = Unit {0}
Counted n (some es) = length es ≡ n

module _ (kind : Kind) (ws : List ℕ) where
  abbrev from : ℕ → Option Edition
  from at = edition_from (settings kind) at ws

  counted : (at n : ℕ) → Counted n (editions_from kind at n ws)
  counted at zero = refl
  counted at (suc n) = go (from at) (editions_from kind (at + 6) n ws) (counted (at + 6) n)
    where
      go : (o : Option Edition) (es : Option (List Edition)) → Counted n es → Counted (suc n) (joining o es)
      go none es h = tt
      go (some e) none h = tt
      go (some e) (some es) h = ap suc h

  abbrev all_kept : Option (List Edition) → Bool
  all_kept none = false
  all_kept (some es) = all (is_edition_of kind) es

  -- so many as can be kept, each of which can
  kept_facts : (n : ℕ) (o : Option (List Edition)) → Counted n o → editions_kept kind o ≡ true
      → ((leb 1 n && leb n 4) ≡ true) × (all_kept o ≡ true)
  unfolding are_editions
  kept_facts n none c h = absurd (false≢true h)
  kept_facts n (some es) c h =
      let p = both (leb 1 (length es) && leb (length es) 4) (all (is_edition_of kind) es) h in
      (ap (λ (k : ℕ). leb 1 k && leb k 4) (sym c) ∙ p.0, p.1)

  first_kept : (o : Option Edition) (es : Option (List Edition)) → all_kept (joining o es) ≡ true
      → (edition_kept kind o ≡ true) × (all_kept es ≡ true)
  first_kept none es h = absurd (false≢true h)
  first_kept (some e) none h = absurd (false≢true h)
  first_kept (some e) (some es) h = both (is_edition_of kind e) (all (is_edition_of kind) es) h

  each_kept : (at n k : ℕ) → k < n → all_kept (editions_from kind at n ws) ≡ true → edition_kept kind (from (at + k * 6)) ≡ true
  each_kept at zero k l h = absurd (omega arith)
  each_kept at (suc n) zero l h =
      ap (λ (p : ℕ). edition_kept kind (from p)) (first_place at) ∙ (first_kept (from at) (editions_from kind (at + 6) n ws) h).0
  each_kept at (suc n) (suc k) l h =
      ap (λ (p : ℕ). edition_kept kind (from p)) (later_place at k)
      ∙ each_kept (at + 6) n k (omega arith) (first_kept (from at) (editions_from kind (at + 6) n ws) h).1

  all_kept_lem : (at m : ℕ) → ((k : ℕ) → k < m → edition_kept kind (from (at + k * 6)) ≡ true) → all_kept (editions_from kind at m ws) ≡ true
  all_kept_lem at zero h = refl
  all_kept_lem at (suc m) h =
      let first : edition_kept kind (from at) ≡ true = rw (first_place at) at (h 0 (omega arith)) in
      joined (from at) (editions_from kind (at + 6) m ws) first
      (all_kept_lem (at + 6) m (λ k l. rw (later_place at k) at (h (suc k) (omega arith))))
    where
      joined : (o : Option Edition) (es : Option (List Edition)) → edition_kept kind o ≡ true → all_kept es ≡ true → all_kept (joining o es) ≡ true
      joined none es e f = absurd (false≢true e)
      joined (some x) none e f = absurd (false≢true f)
      joined (some x) (some es) e f = rw (e, f)

  kept_by : (m : ℕ) (o : Option (List Edition)) → Counted m o → (leb 1 m && leb m 4) ≡ true → all_kept o ≡ true → editions_kept kind o ≡ true
  unfolding are_editions
  kept_by m none c f a = absurd (false≢true a)
  kept_by m (some es) c f a = rw (c, f, a)

  abbrev n : ℕ
  n = get_or ws 64 0

  -- they can be kept exactly where there are one to four, and each can
  pub unfit_many : (leb 1 n && leb n 4) ≡ false → false ≡ editions_kept kind (editions_in kind ws)
  unfit_many e =
      sym (refuted (editions_kept kind (editions_in kind ws))
      (λ h. false≢true (sym e ∙ (kept_facts n (editions_in kind ws) (counted 65 n) h).0)))

  pub unfit_one : (i : ℕ) → i < n → edition_kept kind (from (65 + i * 6)) ≡ false → false ≡ editions_kept kind (editions_in kind ws)
  unfit_one i l e =
      sym (refuted (editions_kept kind (editions_in kind ws))
      (λ h. false≢true (sym e ∙ each_kept 65 n i l (kept_facts n (editions_in kind ws) (counted 65 n) h).1)))

  pub all_fit : (leb 1 n && leb n 4) ≡ true → ((k : ℕ) → k < n → edition_kept kind (from (65 + k * 6)) ≡ true)
      → true ≡ editions_kept kind (editions_in kind ws)
  all_fit e h = sym (kept_by n (editions_in kind ws) (counted 65 n) e (all_kept_lem 65 n h))

  -- the newest of them
  pub first_set : {e : Edition} → (edition_kept kind (from 65) ≡ true → from 65 ≡ some e)
      → editions_kept kind (editions_in kind ws) ≡ true → newest (or_none (editions_in kind ws)) ≡ e
  first_set {e} q h =
      let f = kept_facts n (editions_in kind ws) (counted 65 n) h in
      go n (leb-true 1 n (both (leb 1 n) (leb n 4) f.0).0) f.1
    where
      joined : (o : Option Edition) → o ≡ some e → (es : Option (List Edition)) → all_kept (joining o es) ≡ true → newest (or_none (joining o es)) ≡ e
      joined none r es a = absurd (false≢true a)
      joined (some x) r none a = absurd (false≢true a)
      joined (some x) r (some es) a = let p : x ≡ e = cc in p

      go : (m : ℕ) → 1 ≤ m → all_kept (editions_from kind 65 m ws) ≡ true → newest (or_none (editions_from kind 65 m ws)) ≡ e
      go zero l a = absurd (omega arith)
      go (suc m) l a =
          let k = first_kept (from 65) (editions_from kind (65 + 6) m ws) a in
          joined (from 65) (q k.0) (editions_from kind (65 + 6) m ws) a

  -- the one of a number
  each_in : (at m k : ℕ) (es : List Edition) → editions_from kind at m ws ≡ some es → k < m → from (at + k * 6) ≡ edition_at (suc k) es
  each_in at zero k es h l = absurd (omega arith)
  each_in at (suc m) k es h l =
      go (from at) refl (editions_from kind (at + 6) m ws) refl h k l (λ others r k l. each_in (at + 6) m k others r l)
    where
      go : (o : Option Edition) → from at ≡ o → (rest : Option (List Edition)) → editions_from kind (at + 6) m ws ≡ rest
          → joining o rest ≡ some es → (k : ℕ) → k < suc m
          → ((others : List Edition) → editions_from kind (at + 6) m ws ≡ some others → (k : ℕ) → k < m → from (at + 6 + k * 6) ≡ edition_at (suc k) others)
          → from (at + k * 6) ≡ edition_at (suc k) es
      go none p rest r h k l later = let d : ◌≡◌ {A = ℕ} 0 1 = cc in absurd (omega arith)
      go (some e) p none r h k l later = let d : ◌≡◌ {A = ℕ} 0 1 = cc in absurd (omega arith)
      go (some e) p (some others) r h zero l later =
          let q : e ∷ others ≡ es = cc in
          ap from (first_place at) ∙ p ∙ ap (λ (l : List Edition). edition_at 1 l) q
      go (some e) p (some others) r h (suc k) l later =
          let q : e ∷ others ≡ es = cc in
          ap from (later_place at k) ∙ later others r k (omega arith) ∙ ap (λ (l : List Edition). edition_at (suc (suc k)) l) q

  module _ (es : List Edition) (is : editions_in kind ws ≡ some es) (h : are_editions kind es ≡ true) where
    pub as_many : length es ≡ n
    as_many = rw is at (counted 65 n)

    pub few : length es ≤ 4
    few =
        let kept : editions_kept kind (editions_in kind ws) ≡ true = ap (editions_kept kind) is ∙ h in
        let four = leb-true n 4 (both (leb 1 n) (leb n 4) (kept_facts n (editions_in kind ws) (counted 65 n) kept).0).1 in
        omega (arith, four, as_many)

    -- no edition of that number
    pub not_there : (k : ℕ) → length es ≤ k → None ≡ as_further (edition_at (suc k) es)
    not_there k l = ap as_further (sym (not_kept k es l))

    pub numbered : (k : ℕ) → k < n → {e : Edition} → (edition_kept kind (from (65 + k * 6)) ≡ true → from (65 + k * 6) ≡ some e)
        → Some e ≡ as_further (edition_at (suc k) es)
    numbered k l q =
        let kept : editions_kept kind (editions_in kind ws) ≡ true = ap (editions_kept kind) is ∙ h in
        let here = each_kept 65 n k l (kept_facts n (editions_in kind ws) (counted 65 n) kept).1 in
        ap as_further (sym (q here) ∙ each_in 65 n k es is l)
