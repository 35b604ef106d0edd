-- Channel names, flags, types, levels and milliseconds are judged the same as they stand and as joined, and a setting's
-- legal value sets the same: no fold is inside one. Assumes nothing.
use Prim.Native.Nat.{ℕ}
use mathlib.Core.Path.{◌≡◌, refl, sym, ap, ap₂, ◌∙◌}
use mathlib.Core.Bool.{Bool, true, false, ◌&&◌, ◌||◌, not, false≢true}
use mathlib.Core.Option.{Option, none, some}
use mathlib.Core.List.{List, [], ◌∷◌}
use native.Mathlib.Omega.{arith}
use lib.Dec.{eqb}
use borrow.Author.Tests.{eqb-true}
use Rattle.lists.specs.Lists.{same}
use Rattle.lists.proofs.Tests.{both}
use Rattle.lists.proofs.Scans.{all_of}
use Rattle.octets.specs.Octets.{bytes, is_gap}
use Rattle.readers.specs.Words.{is_number, number_of}
use Rattle.message.specs.Folds.{joined}
use Rattle.message.proofs.Gapless.{gapless, no_gap, number_gapless}
use Rattle.message.proofs.Theorems.JudgedAlike.{judged_alike, passes_same, names_alike, texts_alike}
use Rattle.answer.proofs.Values.{is_visible}
use Rattle.synth.specs.Levels.{places, at_most_one, level_in, is_some, is_level}
use Rattle.synth.specs.Settings as S
use Rattle.synth.specs.Settings.{Name, Sort, flag, millis, sort_of, is_flag, is_millis, is_legal_as, is_legal, level_or, setting_as, setting_in}
use Rattle.synth.specs.Channel.{well_named}
use Rattle.synth.specs.Request.{is_speak}
use Rattle.synth.specs.Judgement.{is_speech_type, is_grammar_type, is_type_of}
use Rattle.synth.specs.declared.Level.{Level}
use Rattle.synth.specs.declared.Method.{Method}
use Rattle.synth.specs.declared.Setting.{Setting}
use Rattle.synth.proofs.Names.{name_visible}

name_gapless : (name : List ℕ) → well_named name ≡ true → gapless name ≡ true
name_gapless name e =
    all_of is_visible (λ x. not (is_gap x)) (no_gap is_visible refl refl refl refl) name (name_visible name e)

pub name_alike : (name : List ℕ) → well_named name ≡ true → (v : List ℕ) → same name (joined v) ≡ same name v
name_alike name e v = names_alike name (name_gapless name e) v

pub flags_alike : (v : List ℕ) → is_flag (joined v) ≡ is_flag v
flags_alike v = ap₂ ◌||◌ (texts_alike (bytes "true") refl v) (texts_alike (bytes "false") refl v)

speech_alike : (v : List ℕ) → is_speech_type (joined v) ≡ is_speech_type v
speech_alike v =
    ap₂ ◌||◌ (ap₂ ◌||◌ (texts_alike (bytes "text/plain") refl v) (texts_alike (bytes "application/ssml+xml") refl v))
    (texts_alike (bytes "text/uri-list") refl v)

grammar_alike : (v : List ℕ) → is_grammar_type (joined v) ≡ is_grammar_type v
grammar_alike v =
    ap₂ ◌||◌ (texts_alike (bytes "application/srgs+xml") refl v) (texts_alike (bytes "text/uri-list") refl v)

pub types_alike : (m : Method) (v : List ℕ) → is_type_of m (joined v) ≡ is_type_of m v
types_alike m v = ap₂ (λ a b. elim (is_speak m) [ true ↦ a | false ↦ b ]) (speech_alike v) (grammar_alike v)

places_gapless : (v ds : List ℕ) → places v ≡ some ds → gapless v ≡ true
places_gapless [] ds e = refl
places_gapless (x ∷ v) ds e = go (eqb x 46 && is_number 6 v) refl
  where
    go : (b : Bool) → eqb x 46 && is_number 6 v ≡ b → gapless (x ∷ v) ≡ true
    go true b =
        let (point, number) = both (eqb x 46) (is_number 6 v) b in
        ap₂ ◌&&◌ (ap (λ x. not (is_gap x)) (eqb-true x 46 point)) (number_gapless 6 v number)
    go false b = let h = rw (b, places) at e in let d : ◌≡◌ {A = ℕ} 0 1 = cc in absurd (omega arith)

level_gapless : (u : List ℕ) → is_level u ≡ true → gapless u ≡ true
unfolding level_in
level_gapless [] e = absurd (false≢true e)
level_gapless (x ∷ v) e = go (eqb x 48 || eqb x 49) refl
  where
    behind : not (is_gap x) ≡ true → (p : Option (List ℕ)) → places v ≡ p → is_some (at_most_one x p) ≡ true
        → gapless (x ∷ v) ≡ true
    behind g none q h = absurd (false≢true h)
    behind g (some ds) q h = ap₂ ◌&&◌ g (places_gapless v ds q)

    go : (b : Bool) → (eqb x 48 || eqb x 49) ≡ b → gapless (x ∷ v) ≡ true
    go true b =
        let lead = no_gap (λ x. eqb x 48 || eqb x 49) refl refl refl refl x b in
        behind lead (places v) refl (rw (b, level_in) at e)
    go false b = absurd (false≢true (rw (b, level_in) at e))

pub levels_alike : (v : List ℕ) → is_level (joined v) ≡ is_level v
levels_alike v = judged_alike is_level level_gapless v

-- and the level that a value is
pub level_alike : (v : List ℕ) → level_in (joined v) ≡ level_in v
level_alike v = go (level_in v) refl
  where
    no_level : (o : Option Level) → is_some o ≡ false → o ≡ none
    no_level none e = refl
    no_level (some n) e = absurd (false≢true (sym e))

    go : (o : Option Level) → level_in v ≡ o → level_in (joined v) ≡ level_in v
    go none e = no_level (level_in (joined v)) (levels_alike v ∙ ap is_some e) ∙ sym e
    go (some n) e = ap level_in (passes_same is_level level_gapless v (ap is_some e))

pub millis_alike : (v : List ℕ) → is_millis (joined v) ≡ is_millis v
millis_alike v = judged_alike is_millis (number_gapless 19) v

legal_as_alike : (s : Sort) (v : List ℕ) → is_legal_as s (joined v) ≡ is_legal_as s v
legal_as_alike flag v = flags_alike v
legal_as_alike millis v = millis_alike v
legal_as_alike S.level v = levels_alike v

-- so is a value of a setting
pub legal_alike : (n : Name) (v : List ℕ) → is_legal n (joined v) ≡ is_legal n v
legal_alike n v = legal_as_alike (sort_of n) v

set_as_alike : (s : Sort) (v : List ℕ) → is_legal_as s v ≡ true → setting_as s (joined v) ≡ setting_as s v
set_as_alike flag v h = ap Setting.Flag (texts_alike (bytes "true") refl v)
set_as_alike millis v h = ap (λ u. Setting.Millis (number_of u)) (passes_same is_millis (number_gapless 19) v h)
set_as_alike S.level v h = ap level_or (level_alike v)

-- and a legal one sets the same
pub setting_alike : (n : Name) (v : List ℕ) → is_legal n v ≡ true → setting_in n (joined v) ≡ setting_in n v
setting_alike n v h = set_as_alike (sort_of n) v h
