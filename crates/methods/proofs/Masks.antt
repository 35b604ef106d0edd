-- A mask with a bit for each listed id marks the entries whose ids are listed. Assumes nothing.
use Prim.Native.Nat.{ℕ, suc, ◌+◌, ◌*◌, ◌%◌, ◌^◌, ◌<◌}
use mathlib.Core.Path.{subst, ◌≡◌, refl, sym, ap, ap₂}
use mathlib.Core.Bool.{Bool, true, false, not, beq}
use mathlib.Core.List.{List, [], ◌∷◌}
use native.Mathlib.Nat.{add_assoc, add-mul, mul_assoc, one-mul, pow-succ', zero-add}
use native.Mathlib.Omega.{arith}
use lib.Dec.{eqb}
use lib.Pow.{high}
use Rattle.lists.specs.Lists.{elem, put, keep, bit}
use Rattle.synth.specs.Channel.{ids}
use Rattle.synth.specs.declared.Entry.{Entry}
use Rattle.idlist.specs.Named.{bit_where, bits_from}
use Rattle.queue.specs.Queue.{marked}

abbrev digit : Bool → ℕ
digit true = 1
digit false = 0

where_is : (b : Bool) (j : ℕ) → bit_where b j ≡ digit b * 2 ^ j
where_is true j = sym (one-mul (2 ^ j))
where_is false j = omega arith

-- a low part, a digit and a high part
regroup : (p w n j : ℕ) → p + (w * 2 ^ j + n * 2 ^ suc j) ≡ (n * 2 + w) * 2 ^ j + p
regroup p w n j =
    let doubled : n * 2 ^ suc j ≡ n * 2 * 2 ^ j = rw (pow-succ' 2 j, mul_assoc) in
    omega (arith, add-mul (n * 2) w (2 ^ j))

-- the bits from bit j on are a multiple of 2 ^ j
bits_high : (j : ℕ) (listed held : List ℕ) → (n : ℕ) × (bits_from j listed held ≡ n * 2 ^ j)
bits_high j listed [] = (0, omega arith)
bits_high j listed (id ∷ held) =
    let b = elem id listed in
    let rest = bits_high (suc j) listed held in
    (rest.0 * 2 + digit b, rw (where_is b j, rest.1) (omega (arith, regroup 0 (digit b) rest.0 j)))

odd : (n : ℕ) (b : Bool) → eqb ((n * 2 + digit b) % 2) 1 ≡ b
odd n true = let e : (n * 2 + 1) % 2 ≡ 1 = omega arith in rw e
odd n false = let e : (n * 2 + 0) % 2 ≡ 0 = omega arith in rw e

bit_here : (j p : ℕ) (b : Bool) (listed held : List ℕ) → p < 2 ^ j → bit (p + (bit_where b j + bits_from (suc j) listed held)) j ≡ b
bit_here j p b listed held h =
    let rest = bits_high (suc j) listed held in
    rw (where_is b j, rest.1, regroup p (digit b) rest.0 j, high (rest.0 * 2 + digit b) j h) (odd rest.0 b)

low_grows : (j p : ℕ) (b : Bool) → p < 2 ^ j → p + bit_where b j < 2 ^ suc j
low_grows j p true h = omega (arith, pow-succ' 2 j)
low_grows j p false h = omega (arith, pow-succ' 2 j)

-- by induction on the queue, with the bits below bit j in p
marks : (want : Bool) (listed : List ℕ) (j p : ℕ) (queue : List Entry) → p < 2 ^ j
    → marked want (p + bits_from j listed (ids queue)) j queue ≡ keep (λ (e : Entry). beq (elem e.id listed) want) queue
marks want listed j p [] h = refl
marks want listed j p (e ∷ queue) h =
    let b = elem e.id listed in
    let rest = bits_from (suc j) listed (ids queue) in
    ap₂ (λ (x : Bool) (q : List Entry). put x e q)
    (ap (λ (x : Bool). beq x want) (bit_here j p b listed (ids queue) h))
    (subst (λ (n : ℕ). marked want n (suc j) queue ≡ keep (λ (e : Entry). beq (elem e.id listed) want) queue)
    (add_assoc p (bit_where b j) rest) (marks want listed (suc j) (p + bit_where b j) queue (low_grows j p b h)))

wanted : (b : Bool) → beq b true ≡ b
wanted true = refl
wanted false = refl

unwanted : (b : Bool) → beq b false ≡ not b
unwanted true = refl
unwanted false = refl

module _ (listed : List ℕ) (queue : List Entry) where
  pub marks_listed : marked true (bits_from 0 listed (ids queue)) 0 queue ≡ keep (λ e. elem e.id listed) queue
  marks_listed = rw zero-add at (simp wanted at (marks true listed 0 0 queue (omega arith)))

  pub marks_others : marked false (bits_from 0 listed (ids queue)) 0 queue ≡ keep (λ e. not (elem e.id listed)) queue
  marks_others = rw zero-add at (simp unwanted at (marks false listed 0 0 queue (omega arith)))
