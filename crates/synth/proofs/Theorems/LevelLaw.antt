-- Levels by their millionths: whatever its places, a level is that of its millionths, what tells it reads as the same
-- level, and the levels kept are exactly those that reading can give. Assumes nothing.
use Prim.Native.Nat.{ℕ}
use mathlib.Core.Path.{◌≡◌, sym, ap, ◌∙◌}
use mathlib.Core.Bool.{true}
use mathlib.Core.Option.{some}
use mathlib.Core.List.{List}
use lib.Dec.{T}
use lib.Ieee.{binary32, fits}
use Rattle.synth.specs.Levels.{level_of, level_in}
use Rattle.synth.specs.Settings.{level_text, is_kept}
use Rattle.synth.specs.declared.Level.{Level}
use Rattle.synth.proofs.Levels.{read_exact, by_millionths, exact_kept, kept_exact, level_back}

-- `0.5`, `0.50` and `0.500000` give one level
pub one_level : (v w : List ℕ) (l m : Level) → level_in v ≡ some l → level_in w ≡ some m
    → l.millionths ≡ m.millionths → l ≡ m
one_level v w l m a b e =
    by_millionths l (read_exact v l a) ∙ ap (λ n. level_of n 6) e ∙ sym (by_millionths m (read_exact w m b))

-- what tells a level that was read reads as that level
pub told_level : (v : List ℕ) (l : Level) → level_in v ≡ some l → level_in (level_text l) ≡ some l
told_level v l e = let x = read_exact v l e in level_back l x.most ∙ ap some (sym (by_millionths l x))

pub read_kept : (v : List ℕ) (l : Level) → level_in v ≡ some l → is_kept l ≡ true
read_kept v l e = exact_kept l (read_exact v l e)

-- of a single-precision number, which a float of the code always is
pub kept_read : (l : Level) → T (fits binary32 l.single) → is_kept l ≡ true → level_in (level_text l) ≡ some l
kept_read l f e = let x = kept_exact l f e in level_back l x.most ∙ ap some (sym (by_millionths l x))
