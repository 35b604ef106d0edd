-- What a further edition leaves of the numbers: it reads in front of those before it. Assumes nothing.
use Prim.Native.Nat.{ℕ, suc, ◌+◌, ◌≤◌, ◌<◌}
use mathlib.Core.Path.{◌≡◌, refl, sym, ap, ap₂, subst, ◌∙◌}
use mathlib.Core.Bool.{Bool, true, false≢true}
use mathlib.Core.Option.{some}
use mathlib.Core.List.{List, ◌∷◌, ◌++◌, append_assoc}
use native.Mathlib.Numerals.{add-one}
use native.Mathlib.Omega.{arith}
use lib.Dec.{T}
use lib.Ieee.{binary32, fits}
use lib.ListN.{length, take, drop, get_or, set, length-drop, get_or-append}
use lib.Seq.{take_all, take-take, take-append-le, drop_at, drop-paste, length-take-le}
use lib.Seq.{get_or-take, get_or-drop, get_or-set_same}
use mir.Val.{Val}
use denote.Laws.{Is}
use Rattle.lists.specs.Lists.{all}
use Rattle.lists.proofs.Tests.{both}
use Rattle.answer.specs.declared.Kind.{Kind}
use Rattle.synth.specs.Settings.{Sort, flag, millis, level, kill_on_barge_in, fetch_timeout, no_input_timeout, confidence_threshold}
use Rattle.synth.specs.Settings.{sensitivity_level, settings, slot, kept_as, kept_for, is_unset, other_kind, is_edition_of}
use Rattle.synth.specs.declared.Setting.{Setting}
use Rattle.synth.specs.declared.Edition.{Edition}
use Rattle.synth.proofs.Levels.{kept_exact}
use Rattle.synth.proofs.Editions.{own_kept}
use Rattle.synth.specs.contracts.Setting as S
use Rattle.synth.specs.contracts.Edition as E
use Rattle.channelnumbers.specs.Steps.{Stored}
use Rattle.channelnumbers.specs.Numbers.{edition_numbers, edition_from, joining, editions_from, editions_in}
use Rattle.channelnumbers.proofs.Saving.{stored_next, edition_six}
use Rattle.channelnumbers.proofs.Tidying.{editions_as, editions_many, first_from}
use Rattle.channelnumbers.proofs.Theorems.LoadSaved.{Told, Tells, edition_behind, flag_told, level_told}

-- ---- an edition of the kind is told by its numbers

-- a level's number is one of single precision
abbrev IsSingle : Setting → Type 0
IsSingle Setting.Unset = Unit {0}
IsSingle (Setting.Flag b) = Unit {0}
IsSingle (Setting.Millis n) = Unit {0}
IsSingle (Setting.Level l) = fits binary32 l.single ≡ true

same_fact : (b : Bool) → b ≡ true → b ≡ true
same_fact b h = h

-- owning a setting says so
owned_single : (x : Setting) (vs : List Val) → Is S.the_row x vs → IsSingle x
owned_single Setting.Unset vs good = tt
owned_single (Setting.Flag b) vs good = tt
owned_single (Setting.Millis n) vs good = tt
owned_single (Setting.Level l) vs good = search same_fact

kept_told : (s : Sort) (x : Setting) → IsSingle x → kept_as s x ≡ true → Told x
kept_told s Setting.Unset f h = refl
kept_told s (Setting.Flag b) f h = flag_told b
kept_told s (Setting.Millis n) f h = refl
kept_told flag (Setting.Level l) f h = absurd (false≢true h)
kept_told millis (Setting.Level l) f h = absurd (false≢true h)
kept_told level (Setting.Level l) f h = level_told l (kept_exact l (subst T (sym f) tt) h)

module _ (e : Edition) (vs : List Val) (good : Is E.the_row e vs) where
  single_kill : IsSingle e.kill
  single_kill = search owned_single

  single_fetch : IsSingle e.fetch
  single_fetch = search owned_single

  single_silence : IsSingle e.silence
  single_silence = search owned_single

  single_confidence : IsSingle e.confidence
  single_confidence = search owned_single

  single_sensitivity : IsSingle e.sensitivity
  single_sensitivity = search owned_single

  pub owned_tells : (kind : Kind) → is_edition_of kind e ≡ true → Tells kind e
  owned_tells kind h =
      let kept = own_kept kind e h in
      let q = both (all (λ n. kept_for n (slot n e)) (settings kind))
      (all (λ n. is_unset (slot n e)) (settings (other_kind kind))) h in
      record {
        told = (
          kept_told flag e.kill single_kill (kept kill_on_barge_in),
          kept_told millis e.fetch single_fetch (kept fetch_timeout),
          kept_told millis e.silence single_silence (kept no_input_timeout),
          kept_told level e.confidence single_confidence (kept confidence_threshold),
          kept_told level e.sensitivity single_sensitivity (kept sensitivity_level),
        );
        others = q.1;
      }

-- ---- the numbers

-- those in front of what is stored stay
front_stays : {w l ws : List ℕ} {at n : ℕ} (k : ℕ) → k ≤ at → at ≤ 89 → Stored w at l n ws → take k ws ≡ take k w
front_stays {w} {l} {ws} {at} {n} k h room s =
    let long : length (take at w) ≡ at = length-take-le at w (omega (arith, s.long)) in
    ap (take k) (s.pasted ∙ append_assoc (take at w) (take n l) (drop (at + n) w))
    ∙ take-append-le k (take at w) (take n l ++ drop (at + n) w) (omega arith)
    ∙ take-take k at w h

-- one number more of those moved
pub number_moved : (old : List ℕ) {m ws : List ℕ} {i : ℕ} → length old ≡ 89 → i < 18 → Stored m 71 (drop 65 old) i ws
    → Stored m 71 (drop 65 old) (i + 1) (set ws (71 + i) (get_or old (65 + i) 0))
number_moved old {m} {ws} {i} long h s =
    stored_next (71 + i) (get_or old (65 + i) 0) refl (omega arith) (omega (arith, length-drop 65 old)) s
    (sym (get_or-drop 65 old i 0))

-- three editions are moved, and one is stored in front of them
module _ (kind : Kind) (w : List ℕ) (e : Edition) (long : length w ≡ 89) {m mid ws : List ℕ}
    (t : Stored m 71 (drop 65 w) 18 mid) (u : Stored mid 65 (edition_numbers kind e) 6 ws) where
  behind : drop 71 ws ≡ take 18 (drop 65 w) ++ drop 89 m
  behind =
      ap (drop 71) u.pasted
      ∙ drop-paste mid 65 (edition_numbers kind e) 6 (omega (arith, u.long)) (omega (arith, edition_six kind e))
      ∙ ap (drop 71) (t.pasted ∙ append_assoc (take 71 m) (take 18 (drop 65 w)) (drop 89 m))
      ∙ drop_at (take 71 m) (take 18 (drop 65 w) ++ drop 89 m) 71 (length-take-le 71 m (omega (arith, t.long)))

  moved : (j : ℕ) → j < 18 → get_or ws (71 + j) 0 ≡ get_or w (65 + j) 0
  moved j h =
      let size : length (drop 65 w) ≡ 24 = length-drop 65 w ∙ omega (arith, long) in
      let many : length (take 18 (drop 65 w)) ≡ 18 = length-take-le 18 (drop 65 w) (omega (arith, size)) in
      sym (get_or-drop 71 ws j 0)
      ∙ ap (λ (l : List ℕ). get_or l j 0) behind
      ∙ get_or-append (take 18 (drop 65 w)) (drop 89 m) 0 j (omega (arith, many))
      ∙ get_or-take 18 (drop 65 w) j 0 h
      ∙ get_or-drop 65 w j 0

  count_stays : get_or ws 64 0 ≡ get_or m 64 0
  count_stays =
      sym (get_or-take 65 ws 64 0 (omega arith))
      ∙ ap (λ (l : List ℕ). get_or l 64 0)
      (front_stays 65 (omega arith) (omega arith) u ∙ front_stays 65 (omega arith) (omega arith) t)
      ∙ get_or-take 65 m 64 0 (omega arith)

  first_back : Tells kind e → edition_from (settings kind) 65 ws ≡ some e
  first_back tells =
      let six : take 6 (edition_numbers kind e) ≡ edition_numbers kind e =
      take_all 6 (edition_numbers kind e) (omega (arith, edition_six kind e)) in
      ap (edition_from (settings kind) 65)
      (u.pasted
      ∙ ap (λ (l : List ℕ). take 65 mid ++ l ++ drop 71 mid) six
      ∙ append_assoc (take 65 mid) (edition_numbers kind e) (drop 71 mid))
      ∙ edition_behind kind e tells (take 65 mid) (drop 71 mid) 65 (length-take-le 65 mid (omega (arith, u.long)))

  -- where the count says that k of those before are kept
  pushed : Tells kind e → (es : List Edition) (n k : ℕ) → editions_from kind 65 n w ≡ some es → k ≤ n → k ≤ 3
      → get_or m 64 0 ≡ suc k → take k es ≡ take 3 es → editions_in kind ws ≡ some (take 4 (e ∷ es))
  pushed tells es n k read few most count same =
      ap (λ (c : ℕ). editions_from kind 65 c ws) (count_stays ∙ count)
      ∙ ap₂ joining (first_back tells)
      (editions_as kind k 71 65 ws w (λ j h. moved j (omega (arith, h))) ∙ first_from kind w k n 65 es few read)
      ∙ ap (λ (l : List Edition). some (e ∷ l)) same

  abbrev n : ℕ
  n = get_or w 64 0

  abbrev Pushed : List Edition → Type 0
  Pushed es = editions_in kind ws ≡ some (take 4 (e ∷ es))

  -- fewer than four stay, of four the oldest goes
  pub pushed_more : Tells kind e → (es : List Edition) → editions_in kind w ≡ some es → n < 4 → m ≡ set w 64 (n + 1)
      → Pushed es
  pushed_more tells es read few is =
      let many = editions_many kind w n 65 es read in
      let count : get_or m 64 0 ≡ suc n =
      ap (λ (l : List ℕ). get_or l 64 0) is ∙ get_or-set_same w 64 (n + 1) 0 (omega (arith, long)) ∙ add-one n in
      let all : take n es ≡ take 3 es = take_all n es (omega (arith, many)) ∙ sym (take_all 3 es (omega (arith, many))) in
      pushed tells es n n read (omega arith) (omega arith) count all

  pub pushed_full : Tells kind e → (es : List Edition) → editions_in kind w ≡ some es → length es ≤ 4 → 4 ≤ n → m ≡ w
      → Pushed es
  pushed_full tells es read few more is =
      let many = editions_many kind w n 65 es read in
      let four : n ≡ suc 3 = omega (arith, many) in
      pushed tells es n 3 read (omega arith) (omega arith) (ap (λ (l : List ℕ). get_or l 64 0) is ∙ four) refl
