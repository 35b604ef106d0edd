-- What each of the 256 bytes may be (document 01, "Fields"), letters without case, and an ASCII text as its bytes.
use Rattle.std.specs.Prelude.{ℕ, zero, suc, ◌+◌, ◌<◌, ◌≡◌, Bool, true, false, ◌&&◌, ◌||◌, cond, not, List, [], ◌∷◌, map, leb, eqb, get_or}
use Prim.Native.Char.{code}
use Prim.Native.String.{String}
use Prim.Native.String as Str
use Rattle.std.specs.Int.Bits.{bit_and}
use Rattle.lists.specs.Lists.{same}

-- an ASCII text, as bytes
abbrev pub bytes : String → List ℕ
bytes Str.[] = []
bytes (Str.◌∷◌ c t) = code c ∷ bytes t

abbrev pub crlf : List ℕ
crlf = bytes "\r\n"

-- from a to e
abbrev pub within : ℕ → ℕ → ℕ → Bool
within a e b = leb a b && leb b e

-- `0` to `9`
abbrev pub is_digit : ℕ → Bool
is_digit b = within 48 57 b

-- `A` to `Z`
abbrev pub is_capital : ℕ → Bool
is_capital b = within 65 90 b

-- an ASCII letter
abbrev pub is_letter : ℕ → Bool
is_letter b = is_capital b || within 97 122 b

-- a byte of a field's name: letters, digits and `-`
abbrev pub is_name : ℕ → Bool
is_name b = is_digit b || is_letter b || eqb b 45

-- a byte of a value: 32 to 126, tab, and 128 to 255
abbrev pub is_value : ℕ → Bool
is_value b = within 32 126 b || eqb b 9 || within 128 255 b

-- space and tab
abbrev pub is_blank : ℕ → Bool
is_blank b = eqb b 32 || eqb b 9

-- what blanks and folds are made of: space, tab, CR and LF
abbrev pub is_gap : ℕ → Bool
is_gap b = is_blank b || eqb b 13 || eqb b 10

-- what a byte may be, a bit for each: digit, capital, name byte, value byte, blank, gap
abbrev pub class_of : ℕ → ℕ
class_of b = cond (is_digit b) 1 0 + cond (is_capital b) 2 0 + cond (is_name b) 4 0 + cond (is_value b) 8 0 + cond
    (is_blank b) 16 0 + cond (is_gap b) 32 0

-- a capital as its small letter, any other byte as it is
abbrev pub lowered : ℕ → ℕ
lowered b = elim (is_capital b) [ true ↦ b + 32 | false ↦ b ]

abbrev pub lower : List ℕ → List ℕ
lower l = map lowered l

-- the same but for the case of letters
abbrev pub alike : List ℕ → List ℕ → Bool
alike a b = same (lower a) (lower b)

abbrev pub from {ℓ} : {A : Type ℓ} → (ℕ → A) → ℕ → ℕ → List A
from f i zero = []
from f i (suc n) = f i ∷ from f (suc i) n

-- the table of 256 byte classes
abbrev pub classes : List ℕ
classes = from class_of 0 256

-- bits that stand for a test: a byte has one of them in the table exactly where the test holds
pub record Stands (bits : ℕ) (test : ℕ → Bool) : Type 0 where
  pub law : (b : ℕ) → b < 256 → not (eqb (bit_and (get_or classes b 0) bits) 0) ≡ test b
