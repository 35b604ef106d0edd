-- Which known name a text is, by its length: only names that are as long can be it.
-- Assumes nothing.
use mathlib.Core.Path.{◌≡◌, refl, sym, ap, ◌∙◌}
use mathlib.Core.Bool.{Bool, true, false}
use mathlib.Core.List.{List, [], ◌∷◌}
use Prim.Native.Nat.{ℕ}
use lib.Dec.{eqb}
use lib.ListN.{length}
use borrow.Author.Tests.{eqb-false}
use Rattle.lists.specs.Lists.{same, put, keep}
use Rattle.octets.specs.Octets.{bytes, lower}
use Rattle.octets.proofs.Texts.{lower_lengths}
use Rattle.message.specs.Known.{or_else, known_of}
use Rattle.message.specs.declared.Known.{Known}
use Rattle.message.specs.declared.Known.TheVariants.{ChannelIdentifier, ContentLength, ContentType}
use Rattle.message.specs.declared.Known.TheVariants.{ActiveRequestIdList, KillOnBargeIn, ProxySyncId, LoggingTag}
use Rattle.message.specs.declared.Known.TheVariants.{Unknown, ConfidenceThreshold, FetchTimeout, NoInputTimeout}
use Rattle.message.specs.declared.Known.TheVariants.{SensitivityLevel}

-- the names in small letters
abbrev letters : Known → List ℕ
letters ChannelIdentifier = bytes "channel-identifier"
letters ContentLength = bytes "content-length"
letters ContentType = bytes "content-type"
letters ActiveRequestIdList = bytes "active-request-id-list"
letters KillOnBargeIn = bytes "kill-on-barge-in"
letters ProxySyncId = bytes "proxy-sync-id"
letters LoggingTag = bytes "logging-tag"
letters Unknown = bytes ""
letters ConfidenceThreshold = bytes "confidence-threshold"
letters FetchTimeout = bytes "fetch-timeout"
letters NoInputTimeout = bytes "no-input-timeout"
letters SensitivityLevel = bytes "sensitivity-level"

-- all known names, in the order of the definition
abbrev all_names : List Known
all_names = ChannelIdentifier ∷ ContentLength ∷ ContentType ∷ ActiveRequestIdList ∷ KillOnBargeIn ∷ ProxySyncId ∷ LoggingTag
    ∷ ConfidenceThreshold ∷ FetchTimeout ∷ NoInputTimeout ∷ SensitivityLevel ∷ []

module _ (n : List ℕ) where
  -- the first of these that the text n is
  abbrev first_of : List Known → Known
  first_of [] = Unknown
  first_of (k ∷ ks) = or_else (same (lower n) (letters k)) k (first_of ks)

  -- those of these that are m bytes long
  abbrev of_length : ℕ → List Known → List Known
  of_length m ks = keep (λ k. eqb m (length (letters k))) ks

  as_long : (m : ℕ) → length n ≡ m → (ks : List Known) → first_of ks ≡ first_of (of_length m ks)
  as_long m e [] = refl
  as_long m e (k ∷ ks) = go (eqb m (length (letters k))) refl (as_long m e ks)
    where
      go : (b : Bool) → eqb m (length (letters k)) ≡ b → first_of ks ≡ first_of (of_length m ks)
          → first_of (k ∷ ks) ≡ first_of (put b k (of_length m ks))
      go true d ih = ap (or_else (same (lower n) (letters k)) k) ih
      go false d ih =
          ap (λ b. or_else b k (first_of ks))
          (lower_lengths n (letters k) (λ q. eqb-false m (length (letters k)) d (sym e ∙ q)))
          ∙ ih

  pub known_by : (m : ℕ) → length n ≡ m → known_of n ≡ first_of (of_length m all_names)
  unfolding known_of
  known_by m e = as_long m e all_names

  pub known_none : (length n ≡ 11 → ⊥) → (length n ≡ 12 → ⊥) → (length n ≡ 13 → ⊥) → (length n ≡ 14 → ⊥)
      → (length n ≡ 16 → ⊥) → (length n ≡ 17 → ⊥) → (length n ≡ 18 → ⊥) → (length n ≡ 20 → ⊥) → (length n ≡ 22 → ⊥)
      → known_of n ≡ Unknown
  unfolding known_of
  known_none h11 h12 h13 h14 h16 h17 h18 h20 h22 =
      simp (
        lower_lengths n (letters ChannelIdentifier) h18,
        lower_lengths n (letters ContentLength) h14,
        lower_lengths n (letters ContentType) h12,
        lower_lengths n (letters ActiveRequestIdList) h22,
        lower_lengths n (letters KillOnBargeIn) h16,
        lower_lengths n (letters ProxySyncId) h13,
        lower_lengths n (letters LoggingTag) h11,
        lower_lengths n (letters ConfidenceThreshold) h20,
        lower_lengths n (letters FetchTimeout) h13,
        lower_lengths n (letters NoInputTimeout) h16,
        lower_lengths n (letters SensitivityLevel) h17,
      )
