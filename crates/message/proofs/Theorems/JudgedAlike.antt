-- A value is judged the same as it stands and as joined, by every test that lets no space, tab, CR or LF pass; and where
-- such a test holds, the two are one text. So whoever judges a value need not join it.
-- Assumes nothing.
use Prim.Native.Nat.{ℕ}
use mathlib.Core.Path.{◌≡◌, refl, sym, ap, ◌∙◌}
use mathlib.Core.Bool.{Bool, true, false, false≢true}
use mathlib.Core.Option.{Option, none, some}
use mathlib.Core.List.{List}
use Rattle.lists.specs.Lists.{same}
use Rattle.lists.proofs.Tests.{refuted}
use Rattle.octets.specs.Octets.{lower, alike}
use Rattle.readers.specs.Words.{is_number}
use Rattle.message.specs.Folds.{joined}
use Rattle.message.specs.Known.{as_joined}
use Rattle.message.specs.Reading.{agrees}
use Rattle.message.proofs.Gapless.{gapless, joined_gapless, gapless_joined, number_gapless, same_gapless}
use Rattle.message.proofs.Gapless.{alike_gapless}

pub same_text : (v : List ℕ) → gapless v ≡ true → joined v ≡ v
same_text v g = gapless_joined v g

module _ (test : List ℕ → Bool) (strict : (u : List ℕ) → test u ≡ true → gapless u ≡ true) where
  -- no gap: the same text; a gap: one in both, so that neither passes
  pub judged_alike : (v : List ℕ) → test (joined v) ≡ test v
  judged_alike v = go (gapless v) refl
    where
      fails : (u : List ℕ) → gapless u ≡ false → test u ≡ false
      fails u g = refuted (test u) (λ e. false≢true (sym g ∙ strict u e))

      go : (b : Bool) → gapless v ≡ b → test (joined v) ≡ test v
      go true g = ap test (same_text v g)
      go false g = fails (joined v) (joined_gapless v ∙ g) ∙ sym (fails v g)

  -- what passes, as joined or as it stands, was joined already
  pub passes_same : (v : List ℕ) → test v ≡ true → joined v ≡ v
  passes_same v e = same_text v (strict v e)

pub numbers_alike : (max : ℕ) (v : List ℕ) → is_number max (joined v) ≡ is_number max v
numbers_alike max v = judged_alike (is_number max) (number_gapless max) v

pub names_alike : (name : List ℕ) → gapless name ≡ true → (v : List ℕ) → same name (joined v) ≡ same name v
names_alike name g v = judged_alike (same name) (same_gapless name g) v

pub texts_alike : (text : List ℕ) → gapless (lower text) ≡ true → (v : List ℕ) → alike (joined v) text ≡ alike v text
texts_alike text g v = judged_alike (λ u. alike u text) (alike_gapless text g) v

-- a Content-Length: the number that it writes, where it is one
pub lengths_alike : (given : Option (List ℕ)) (n : ℕ) → agrees (as_joined given) n ≡ agrees given n
lengths_alike none n = refl
lengths_alike (some v) n = go (is_number 19 v) refl
  where
    go : (b : Bool) → is_number 19 v ≡ b → agrees (some (joined v)) n ≡ agrees (some v) n
    go true e = ap (λ u. agrees (some u) n) (passes_same (is_number 19) (number_gapless 19) v e)
    go false e = rw (numbers_alike 19 v, e)
