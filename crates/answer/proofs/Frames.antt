-- A written message at the front of lent bytes: its stated length is its own, and it is the frame.
use Prim.Native.Nat.{ℕ, ◌+◌, ◌≤◌}
use native.Mathlib.Omega.{arith}
use mathlib.Core.Path.{◌≡◌, refl, sym, ap, ◌∙◌}
use mathlib.Core.List.{List, ◌∷◌, ◌++◌, append_assoc}
use lib.ListN.{length, drop, length-append}
use lib.Seq.{drop-append_seam}
use Rattle.octets.specs.Octets.{bytes, crlf}
use Rattle.readers.specs.Readers.{got, number}
use Rattle.readers.proofs.Spelled.{number_reads}
use Rattle.writers.specs.Decimal.{digits, width}
use Rattle.writers.specs.SelfLength.{self_length}
use Rattle.writers.proofs.Digits.{digits_all, digits_number, width_pos, width_below}
use Rattle.writers.proofs.Theorems.SmallestLength.{self_length_lem}
use Rattle.framing.specs.Framing.{Frame, opening, framed, framing}
use Rattle.framing.proofs.Frames.{measured_whole}
use Rattle.message.specs.Message.{Message}
use Rattle.answer.specs.Written.{start_text, fields_text, after_length, written}
use Rattle.answer.proofs.Places.{past}

regroup : (p d x s c f b r : List ℕ) → p ++ d ++ (x ++ s ++ c ++ f ++ c ++ b) ++ r ≡ p ++ (d ++ (x ++ (s ++ (c ++ (f ++ (c ++ (b ++ r)))))))
regroup p d x s c f b r = simp append_assoc

-- a number before a space
number_written : (n : ℕ) (v : List ℕ) → width n ≤ 19 → number 19 (digits n ++ 32 ∷ v) ≡ got n (width n)
number_written n v h = rw (number_reads 32 refl v 18 (digits n) (width_pos n) h (digits_all n), digits_number n)

opening_read : (n : ℕ) (v : List ℕ) → width n ≤ 19
    → opening (bytes "MRCP/2.0 " ++ (digits n ++ 32 ∷ v)) ≡ got (record { major = 2; minor = 0; stated = n }) (9 + width n + 1)
unfolding opening
opening_read n v h =
    rw (number_written n v h)
    (rw (drop-append_seam (digits n) (32 ∷ v)) (ap (got (record { major = 2; minor = 0; stated = n })) (omega arith)))

-- the space behind the length
space : (m : Message) → 1 ≤ length (after_length m)
unfolding after_length
space m = omega arith

module _ (m : Message) where
  -- the length that it states
  abbrev pub size : ℕ
  size = self_length (9 + length (after_length m))

  -- how many bytes its opening has
  abbrev pub opens : ℕ
  opens = 9 + width size + 1

  pub written_length : length (written m) ≡ size
  unfolding written
  written_length = simp length-append (omega (arith, (self_length_lem (9 + length (after_length m))).fits))

  pub written_some : 1 ≤ length (written m)
  unfolding written
  written_some = omega arith

  -- what stands behind the opening
  abbrev pub follows : List ℕ → List ℕ
  follows rest = start_text m.start ++ 13 ∷ 10 ∷ (fields_text m.fields ++ 13 ∷ 10 ∷ (m.body ++ rest))

  written_is : (rest : List ℕ) → written m ++ rest ≡ bytes "MRCP/2.0 " ++ (digits size ++ 32 ∷ follows rest)
  unfolding written after_length
  written_is rest = regroup (bytes "MRCP/2.0 ") (digits size) (bytes " ") (start_text m.start) crlf (fields_text m.fields) m.body rest

  pub opened : (rest : List ℕ) → drop opens (written m ++ rest) ≡ follows rest
  opened rest =
      let s : List ℕ = written m ++ rest in
      past s (9 + width size) (bytes " ") (follows rest) (past s 9 (digits size) _ (past s 0 (bytes "MRCP/2.0 ") _ (written_is rest)))

  opens_within : opens ≤ size
  opens_within = omega (arith, (self_length_lem (9 + length (after_length m))).fits, space m)

  pub frame : (rest : List ℕ) → length (written m) ≤ 16384 → framing (written m ++ rest) ≡ Frame 2 0 opens (length (written m))
  unfolding framing
  frame rest h =
      let s : List ℕ = written m ++ rest in
      let few : size ≤ 16384 = omega (arith, written_length) in
      let there : size ≤ length s = omega (arith, written_length, length-append (written m) rest) in
      ap (λ r. framed r (length s)) (ap opening (written_is rest) ∙ opening_read size (follows rest) (width_below size 18 (omega arith)))
      ∙ measured_whole (record { major = 2; minor = 0; stated = size }) opens (length s) few opens_within there
      ∙ ap (Frame 2 0 opens) (sym written_length)
