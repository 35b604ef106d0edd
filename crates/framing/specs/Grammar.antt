-- The opening as a grammar, and the bytes that can still become one: nothing here is about how it is read.
use Rattle.std.specs.Prelude.{◌≡◌, true, List, [], ◌++◌, ℕ, ◌+◌, ◌≤◌, length}
use Rattle.lists.specs.Lists.{all}
use Rattle.octets.specs.Octets.{bytes, is_digit}
use Rattle.readers.specs.Words.{number_of}

abbrev pub Grammar : Type 1
Grammar = List ℕ → Type 0

-- just these bytes
abbrev pub just : List ℕ → Grammar
just t u = u ≡ t

-- 1 to max digits
pub record Digits (max : ℕ) (u : List ℕ) : Type 0 where
  pub some : 1 ≤ length u
  pub most : length u ≤ max
  pub digits : all is_digit u ≡ true

infixr 20 ◌then◌
-- one after the other
abbrev pub ◌then◌ : Grammar → Grammar → Grammar
◌then◌ L M u = (a : List ℕ) × (b : List ℕ) × L a × M b × (u ≡ a ++ b)

-- all that comes before the digits of the length
abbrev pub IsVersion : Grammar
IsVersion = just (bytes "MRCP/") then Digits 2 then just (bytes ".") then Digits 2 then just (bytes " ")

-- `MRCP/`, 1 or 2 digits, `.`, 1 or 2 digits, one space, 1 to 19 digits, one space
abbrev pub IsOpening : Grammar
IsOpening = just (bytes "MRCP/") then Digits 2 then just (bytes ".") then Digits 2 then just (bytes " ") then Digits 19 then just (bytes " ")

-- an opening stands at the front
abbrev pub Holds : List ℕ → Type 0
Holds s = (u : List ℕ) × (v : List ℕ) × IsOpening u × (s ≡ u ++ v)

-- a proper beginning of some opening
abbrev pub Begins : List ℕ → Type 0
Begins s = (t : List ℕ) × (t ≡ [] → ⊥) × IsOpening (s ++ t)

-- no continuation of the bytes holds an opening
abbrev pub Never : List ℕ → Type 0
Never s = (t : List ℕ) → Holds (s ++ t) → ⊥

-- an opening of k bytes stands at the front, and its digits write n
pub record States (s : List ℕ) (k n : ℕ) : Type 0 where
  pub version : List ℕ
  pub digits : List ℕ
  pub rest : List ℕ
  pub is_version : IsVersion version
  pub is_digits : Digits 19 digits
  pub front : s ≡ version ++ digits ++ bytes " " ++ rest
  pub size : k ≡ length version + length digits + 1
  pub value : n ≡ number_of digits
