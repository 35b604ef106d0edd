-- Readers: what a list of bytes begins with. Three answers: the bytes end too soon, they are wrong, or a value was read from the
-- first n bytes.
use Rattle.std.specs.Prelude.{ℕ, suc, zero, ◌+◌, ◌-◌, ◌*◌, Bool, true, false, List, [], ◌∷◌, eqb, drop}
use Rattle.octets.specs.Octets.{is_digit}

pub data Read (A : Type 0) : Type 0 where
  short wrong : Read A
  got : A → ℕ → Read A

abbrev pub Reader : Type 0 → Type 0
Reader A = List ℕ → Read A

-- the same answer, n bytes further on
abbrev pub after : {A : Type 0} → ℕ → Read A → Read A
after n short = short
after n wrong = wrong
after n (got v k) = got v (n + k)

-- one reader, and then another on the bytes that the first left
abbrev pub next : {A B : Type 0} → Read A → (A → Reader B) → List ℕ → Read B
next short f s = short
next wrong f s = wrong
next (got v n) f s = after n (f v (drop n s))

infixr 10 ◌>>=◌
abbrev pub ◌>>=◌ : {A B : Type 0} → Reader A → (A → Reader B) → Reader B
◌>>=◌ p f s = next (p s) f s

infixr 10 ◌>>◌
abbrev pub ◌>>◌ : {A B : Type 0} → Reader A → Reader B → Reader B
◌>>◌ p q s = next (p s) (λ _. q) s

abbrev pub done : {A : Type 0} → A → Reader A
done v s = got v 0

-- a byte that passes the test, and then f of it; `other` where it does not
abbrev pub byte : {A : Type 0} → (ℕ → Bool) → (ℕ → Reader A) → Read A → Reader A
byte test f other [] = short
byte test f other (x ∷ s) = elim (test x) [ true ↦ after 1 (f x s) | false ↦ other ]

-- exactly these bytes
abbrev pub text : List ℕ → Reader (Unit {0})
text [] = done tt
text (b ∷ bs) = byte (eqb b) (λ _. text bs) wrong

-- at most `max` digits, as many as there are: the number that v and they write
abbrev pub digits : ℕ → ℕ → Reader ℕ
digits zero v = done v
digits (suc max) v = byte is_digit (λ x. digits max (v * 10 + (x - 48))) (got v 0)

-- a number of 1 to `max` digits
abbrev pub number : ℕ → Reader ℕ
number max = byte is_digit (λ x. digits (max - 1) (x - 48)) wrong
