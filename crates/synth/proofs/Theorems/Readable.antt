-- Settings and their values: the settings that can be kept are exactly unset and what some legal value sets; what tells
-- a setting is legal and sets the same again; and its text has at most 19 bytes. Assumes nothing.
use Prim.Native.Nat.{ℕ, ◌≤◌, ◌<◌}
use mathlib.Core.Path.{◌≡◌, refl, sym, ap, ◌∙◌}
use mathlib.Core.Bool.{Bool, true, false, ◌&&◌, false≢true}
use mathlib.Core.Option.{Option, none, some}
use mathlib.Core.List.{List}
use mathlib.Core.Logic.{◌⊎◌, inl, inr}
use native.Mathlib.Nat.{pow-le-pow_right}
use native.Mathlib.Omega.{arith}
use lib.Dec.{T, leb, lit≤}
use lib.Ieee.{binary32, fits}
use lib.ListN.{length}
use borrow.Author.Tests.{leb-true, le-leb, lt-ltb, ltb-true}
use Rattle.lists.specs.Lists.{all}
use Rattle.lists.proofs.Tests.{both}
use Rattle.octets.specs.Octets.{bytes, alike, is_digit}
use Rattle.readers.specs.Words.{number_of}
use Rattle.readers.proofs.Decimals.{number_below}
use Rattle.writers.specs.Decimal.{digits}
use Rattle.writers.proofs.Digits.{digits_all, digits_number, width_pos, width_below}
use Rattle.synth.specs.Levels.{level_in, is_some}
use Rattle.synth.specs.Settings as S
use Rattle.synth.specs.Settings.{Name, Sort, flag, millis, sort_of, is_millis, is_legal_as, is_legal, level_or, setting_as, setting_in, level_text, setting_text, kept_as, kept_for}
use Rattle.synth.specs.declared.Level.{Level}
use Rattle.synth.specs.declared.Setting.{Setting}
use Rattle.synth.proofs.Levels.{kept_most, six_length, level_text_lem}
use Rattle.synth.proofs.Theorems.LevelLaw.{told_level, read_kept, kept_read}

-- ---- milliseconds and levels

millis_below : (v : List ℕ) → is_millis v ≡ true → number_of v < 10000000000000000000
millis_below v h =
    let a = both (leb 1 (length v) && leb (length v) 19) (all is_digit v) h in
    let b = both (leb 1 (length v)) (leb (length v) 19) a.0 in
    let c = pow-le-pow_right {n = 10} (lit≤ tt) {i = length v} {j = 19} (leb-true (length v) 19 b.1) in
    omega (arith, number_below v a.1, c)

millis_legal : (n : ℕ) → n < 10000000000000000000 → is_millis (digits n) ≡ true
millis_legal n h =
    rw (
      le-leb 1 (length (digits n)) (width_pos n),
      le-leb (length (digits n)) 19 (width_below n 18 (omega arith)),
      digits_all n,
    )

-- a text is legal as a level exactly where it has millionths
level_legal : (v : List ℕ) (l : Level) → level_in v ≡ some l → is_legal_as S.level v ≡ true
level_legal v l e = ap is_some e

no_level : (v : List ℕ) → level_in v ≡ none → is_legal_as S.level v ≡ true → ⊥
no_level v e h = false≢true (sym (ap is_some e) ∙ h)

-- ---- what a legal value sets can be kept

level_kept : (v : List ℕ) (o : Option Level) → level_in v ≡ o → kept_as S.level (level_or o) ≡ true
level_kept v none e = refl
level_kept v (some l) e = read_kept v l e

kept_of : (s : Sort) (v : List ℕ) → is_legal_as s v ≡ true → kept_as s (setting_as s v) ≡ true
kept_of flag v h = refl
kept_of millis v h = lt-ltb (number_of v) 10000000000000000000 (millis_below v h)
kept_of S.level v h = level_kept v (level_in v) refl

pub readable_kept : (n : Name) (v : List ℕ) → is_legal n v ≡ true → kept_for n (setting_in n v) ≡ true
readable_kept n v h = kept_of (sort_of n) v h

-- ---- what can be kept is unset, or set by a legal value

-- a level's number is a single-precision one, as every float of the code is
abbrev pub IsSingle : Setting → Type 0
IsSingle Setting.Unset = Unit {0}
IsSingle (Setting.Flag b) = Unit {0}
IsSingle (Setting.Millis n) = Unit {0}
IsSingle (Setting.Level l) = T (fits binary32 l.single)

abbrev pub SetBy : Sort → Setting → Type 0
SetBy s x = (v : List ℕ) × (is_legal_as s v ≡ true) × (setting_as s v ≡ x)

abbrev pub Readable : Name → Setting → Type 0
Readable n x = SetBy (sort_of n) x

set_by_lem : (s : Sort) (x : Setting) → IsSingle x → kept_as s x ≡ true → (x ≡ Setting.Unset) ⊎ SetBy s x
set_by_lem s Setting.Unset f h = inl refl
set_by_lem flag (Setting.Flag true) f h = inr (bytes "true", refl, refl)
set_by_lem flag (Setting.Flag false) f h = inr (bytes "false", refl, refl)
set_by_lem millis (Setting.Flag b) f h = absurd (false≢true h)
set_by_lem S.level (Setting.Flag b) f h = absurd (false≢true h)
set_by_lem flag (Setting.Millis n) f h = absurd (false≢true h)
set_by_lem millis (Setting.Millis n) f h =
    inr (digits n, millis_legal n (ltb-true n 10000000000000000000 h), ap Setting.Millis (digits_number n))
set_by_lem S.level (Setting.Millis n) f h = absurd (false≢true h)
set_by_lem flag (Setting.Level l) f h = absurd (false≢true h)
set_by_lem millis (Setting.Level l) f h = absurd (false≢true h)
set_by_lem S.level (Setting.Level l) f h =
    let t = kept_read l f h in
    inr (level_text l, level_legal (level_text l) l t, ap level_or t)

pub kept_readable : (n : Name) (x : Setting) → IsSingle x → kept_for n x ≡ true → (x ≡ Setting.Unset) ⊎ Readable n x
kept_readable n x f h = set_by_lem (sort_of n) x f h

-- ---- a value read, and read again from what tells it

pub record Again (s : Sort) (v : List ℕ) : Type 0 where
  pub legal_again : is_legal_as s (setting_text (setting_as s v)) ≡ true
  pub same_again : setting_as s (setting_text (setting_as s v)) ≡ setting_as s v

flag_again : (v : List ℕ) (b : Bool) → alike v (bytes "true") ≡ b → Again flag v
flag_again v true e = record { legal_again = rw e refl; same_again = rw e refl }
flag_again v false e = record { legal_again = rw e refl; same_again = rw e refl }

level_again : (v : List ℕ) (o : Option Level) → level_in v ≡ o → is_legal_as S.level v ≡ true → Again S.level v
level_again v none e h = absurd (no_level v e h)
level_again v (some l) e h =
    let t : level_in (level_text l) ≡ some l = told_level v l e in
    record {
      legal_again = ap (λ o. is_legal_as S.level (setting_text (level_or o))) e ∙ level_legal (level_text l) l t;
      same_again = ap (λ o. level_or (level_in (setting_text (level_or o)))) e ∙ ap level_or t ∙ ap level_or (sym e);
    }

again : (s : Sort) (v : List ℕ) → is_legal_as s v ≡ true → Again s v
again flag v h = flag_again v (alike v (bytes "true")) refl
again millis v h = record {
  legal_again = millis_legal (number_of v) (millis_below v h);
  same_again = ap Setting.Millis (digits_number (number_of v));
}
again S.level v h = level_again v (level_in v) refl h

-- what SET-PARAMS would take, GET-PARAMS would answer as a text that is legal and sets the same, for every level
pub same_value : (n : Name) (v : List ℕ) → is_legal n v ≡ true → Again (sort_of n) v
same_value n v h = again (sort_of n) v h

-- ---- the longest text of a setting

short : (s : Sort) (x : Setting) → kept_as s x ≡ true → length (setting_text x) ≤ 19
short s Setting.Unset h = lit≤ tt
short s (Setting.Flag true) h = lit≤ tt
short s (Setting.Flag false) h = lit≤ tt
short flag (Setting.Millis n) h = absurd (false≢true h)
short millis (Setting.Millis n) h =
    width_below n 18 (let u = ltb-true n 10000000000000000000 h in omega arith)
short S.level (Setting.Millis n) h = absurd (false≢true h)
short flag (Setting.Level l) h = absurd (false≢true h)
short millis (Setting.Level l) h = absurd (false≢true h)
short S.level (Setting.Level l) h =
    let m = kept_most l h in
    omega (arith, ap length (level_text_lem l m), six_length l.millionths m)

pub longest : (n : Name) (x : Setting) → kept_for n x ≡ true → length (setting_text x) ≤ 19
longest n x h = short (sort_of n) x h
