-- Whether a line has ended, one law for each way that a turn of the loop can go; and what a line is read as.
-- Assumes nothing.
use Prim.Native.Nat.{ℕ, ◌+◌, ◌<◌, ◌≤◌, min}
use mathlib.Core.Path.{◌≡◌, refl, sym, ap, ◌∙◌}
use mathlib.Core.Bool.{Bool, true, false, ◌&&◌, false≢true}
use mathlib.Core.Option.{Option, none, some}
use mathlib.Core.List.{List, [], ◌∷◌}
use native.Mathlib.Omega.{arith}
use lib.Dec.{ltb}
use borrow.Author.Tests.{le-ltb}
use Rattle.std.proofs.lemmas.List.{take_min}
use lib.ListN.{length, get_or, take, drop, drop_of_length-le}
use Rattle.readers.specs.Words.{is_crlf, behind, line, words}
use Rattle.readers.proofs.Cuts.{line_end, line_on}
use Rattle.readers.proofs.Positions.{here}
use Rattle.message.specs.Message.{Start}
use Rattle.message.specs.StartLines.{Started, started, going_on, start_of, line_start, start_line}
use Rattle.message.specs.declared.Span.{Span}
use Rattle.std.specs.Prelude.{Ok, Err}
use Rattle.whose.specs.Whose.{id_in, of_start, of_line, window}
use Rattle.whose.specs.Steps.{has_line, opened}
use Rattle.whose.specs.declared.NoId.TheVariants.{Malformed}
use Rattle.whose.proofs.Ways.{no_more}

abbrev is_there : Option (List ℕ) → Bool
is_there none = false
is_there (some l) = true

behind_there : (x : ℕ) (r : Option (List ℕ)) → is_there (behind x r) ≡ is_there r
behind_there x none = refl
behind_there x (some l) = refl

has : (l : List ℕ) → is_crlf l ≡ true → has_line l ≡ true
has [] e = absurd (false≢true e)
has (x ∷ l) e = ap is_there (line_end x l e)

module _ (s : List ℕ) (i : ℕ) where
  pub line_here : is_crlf (drop i s) ≡ true → has_line (drop i s) ≡ true
  line_here e = has (drop i s) e

  pub line_later : i < length s → is_crlf (drop i s) ≡ false → has_line (drop i s) ≡ has_line (drop (i + 1) s)
  line_later h e =
      let p = here s i h in
      ap has_line p ∙ ap is_there (line_on (get_or s i 0) (drop (i + 1) s) (ap is_crlf (sym p) ∙ e))
      ∙ behind_there (get_or s i 0) (line (drop (i + 1) s))

  pub line_nowhere : length s ≤ i → has_line (drop i s) ≡ false
  line_nowhere h = rw (drop_of_length-le s h)

-- ---- what the line behind an opening is read as decides the answer

module _ (k stated lent : ℕ) where
  start_told : (x : Option (Start Span)) (n : ℕ) (st : Start Span) (next : ℕ) → started st next ≡ going_on x n
      → Ok (id_in st) ≡ of_start x
  start_told none n st next e = let d : ◌≡◌ {A = ℕ} 0 1 = cc in absurd (omega arith)
  start_told (some y) n st next e = let q : st ≡ y = cc in ap (λ (z : Start Span). Ok (id_in z)) q

  line_told : (r : Option (List ℕ)) (st : Start Span) (next : ℕ) → started st next ≡ line_start k r
      → Ok (id_in st) ≡ of_line k stated lent r
  line_told none st next e = let d : ◌≡◌ {A = ℕ} 0 1 = cc in absurd (omega arith)
  line_told (some l) st next e = start_told (start_of k (words 32 l)) (k + length l + 2) st next e

  start_wrong : (x : Option (Start Span)) (n : ℕ) → Started.malformed ≡ going_on x n → Err Malformed ≡ of_start x
  start_wrong none n e = refl
  start_wrong (some y) n e = let d : ◌≡◌ {A = ℕ} 0 1 = cc in absurd (omega arith)

  line_wrong : (r : Option (List ℕ)) → Started.malformed ≡ line_start k r
      → (is_there r ≡ false → ltb lent 128 && ltb lent stated ≡ false) → Err Malformed ≡ of_line k stated lent r
  line_wrong none e h = sym (no_more k stated lent (h refl))
  line_wrong (some l) e h = start_wrong (start_of k (words 32 l)) (k + length l + 2) e

-- n bytes are looked at
module _ (k stated : ℕ) (s : List ℕ) (n : ℕ) (most : n ≡ min (length s) (min 128 stated)) (big : k ≤ stated) where
  looked_at : take n s ≡ window stated s
  looked_at =
      ap (λ m. take m s) {x = n} {y = min (min 128 stated) (length s)} (omega arith) ∙ take_min (min 128 stated) s

  opened_on : of_line k stated (length s) (line (drop k (take n s))) ≡ opened k stated s
  opened_on =
      ap (λ u. of_line k stated (length s) (line (drop k u))) looked_at ∙ sym (rw (le-ltb stated k big, opened))

  pub opened_told : (st : Start Span) (next id : ℕ) → id ≡ id_in st → started st next ≡ start_line k (take n s)
      → Ok id ≡ opened k stated s
  unfolding start_line
  opened_told st next id i e =
      ap Ok i ∙ line_told k stated (length s) (line (drop k (take n s))) st next e ∙ opened_on

  -- the line cannot come any more, or is there
  pub opened_wrong : Started.malformed ≡ start_line k (take n s)
      → (has_line (drop k (take n s)) ≡ false → ltb (length s) 128 && ltb (length s) stated ≡ false)
      → Err Malformed ≡ opened k stated s
  unfolding start_line
  opened_wrong e h = line_wrong k stated (length s) (line (drop k (take n s))) e h ∙ opened_on
