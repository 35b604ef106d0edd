-- A message's numbers at the front of a lent output. Assumes nothing.
use mathlib.Core.Path.{◌≡◌, refl, sym, ap, ◌∙◌}
use mathlib.Core.Bool.{Bool}
use mathlib.Core.List.{List, [], ◌∷◌, ◌++◌, append_assoc}
use Prim.Native.Nat.{ℕ, ◌+◌, ◌*◌, ◌-◌, ◌≤◌}
use native.Mathlib.Omega.{arith}
use lib.ListN.{length, take, drop, replicate, length-append}
use borrow.Author.Tests.{le-ltb}
use borrow.Rule.Slice.PartMut.{put_mid}
use lib.Seq.{take_at, drop-drop, take-append_seam, drop-append_seam}
use Rattle.std.specs.Prelude.{Option, Some}
use Rattle.message.specs.Message.{Fields, bad, good}
use Rattle.message.specs.Reading.{fields_from}
use Rattle.message.specs.declared.Span.{Span}
use Rattle.message.proofs.Says.{Judged, fields_from_lem}
use Rattle.header.specs.Header.{header_in, header_of, field_numbers, Kept}
use Rattle.header.specs.declared.Header.{Header}
use Rattle.header.proofs.Places.{numbers_length, kept_length, kept_all}
use Rattle.messagenumbers.specs.Layout.{handed, fields_numbers}

-- the answer at the front
pub fits : (answer out : List ℕ) → length answer ≤ length out
    → handed answer out ≡ record { number = 0; out = answer ++ drop (length answer) out }
fits answer out h = rw (le-ltb (length out) (length answer) h, handed)

-- numbers laid behind others
behind : (a rest b : List ℕ) (n k : ℕ) → n ≡ length a → put_mid n k (a ++ rest) b ≡ a ++ b ++ drop k rest
behind a rest b n k p = rw (p, take-append_seam a rest, drop-append_seam a rest, append_assoc)

module _ (a b c out : List ℕ) (eight : length a ≡ 8) (eight' : length b ≡ 8) (room : 16 + length c ≤ length out) where
  laid : put_mid 16 (16 + length c - 16) (put_mid 8 8 (a ++ drop 8 out) b) c ≡ a ++ b ++ c ++ drop (16 + length c) out
  laid =
      let k : 16 + length c - 16 ≡ length c = omega arith in
      rw (k, behind a (drop 8 out) b 8 8 (sym eight))
      (behind (a ++ b) (drop 8 (drop 8 out)) c 16 (length c) (omega (arith, length-append a b))
      ∙ ap (λ l. a ++ b ++ c ++ drop (length c) l) (drop-drop 8 8 out)
      ∙ ap (λ l. a ++ b ++ c ++ l) (drop-drop (length c) 16 out))

  pub hand_laid : record { number = 0; out = put_mid 16 (16 + length c - 16) (put_mid 8 8 (a ++ drop 8 out) b) c }
      ≡ handed (a ++ b ++ c) out
  hand_laid =
      let n : length (a ++ b ++ c) ≡ 16 + length c = omega (arith, length-append (a ++ b) c, length-append a b) in
      rw laid (rw (← n) (sym (fits (a ++ b ++ c) out (omega arith))))

-- the numbers that were lent for the places of fields
abbrev lent : List ℕ
lent = replicate 128 0

-- what was read: good fields, and their places
pub record Read (f : List ℕ) (x : Fields Span) (h : Header) (places : List ℕ) : Type 0 where
  pub few : h.count ≤ 32
  pub room : length places ≡ 128
  pub numbers : fields_numbers f x ≡ (1 ∷ h.count ∷ h.body.start ∷ h.body.len ∷ h.mask ∷ 0 ∷ 0 ∷ 0 ∷ []) ++ take (4 * h.count) places

read_one : (params : Bool) (f : List ℕ) (at : ℕ) (places : List ℕ) (h : Header) (x : Fields Span) → Judged params f at x
    → Kept lent x places → Some h ≡ header_of f x → Read f x h places
read_one params f at places h bad j k e = cc
read_one params f at places h (good fs body) j k e =
    let n : take (4 * length fs) places ≡ field_numbers fs = ap (take (4 * length fs)) (k ∙ kept_all lent fs (omega (arith, j.few)))
    ∙ take_at (field_numbers fs) (drop (4 * length fs) lent) (4 * length fs) (numbers_length fs) in
    let same : h ≡ header_in f fs body = cc in
    rw same (record { few = j.few; room = ap length k ∙ kept_length lent fs; numbers = rw n refl })

pub was_read : (params : Bool) (f : List ℕ) (at : ℕ) (places : List ℕ) (o : Option Header) (h : Header)
    → (o ≡ header_of f (fields_from params f at)) × Kept lent (fields_from params f at) places → o ≡ Some h
    → Read f (fields_from params f at) h places
was_read params f at places o h e s =
    read_one params f at places h (fields_from params f at) (fields_from_lem params f at) e.1 (sym s ∙ e.0)
