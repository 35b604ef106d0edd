-- The bits of known names in a mask.
-- Assumes nothing.
use mathlib.Core.Path.{◌≡◌, refl, ◌∙◌, ap}
use mathlib.Core.Bool.{Bool, true, false, not, cond, ◌&&◌, ◌||◌}
use Prim.Native.Nat.{ℕ, ◌^◌, ◌<◌}
use lib.Dec.{eqb, leb, lit<}
use lib.Bits.{bit_and, bit_or, and_zero_r}
use Rattle.lists.specs.Lists.{bit}
use Rattle.lists.proofs.Masks.{set_any, test_any}
use Rattle.octets.specs.Octets.{from}
use Rattle.octets.proofs.Bits.{agree}
use Rattle.message.specs.Known.{index_of, is, is_known}
use Rattle.message.specs.declared.Known.{Known}
use Rattle.message.specs.declared.Known.TheVariants.{ChannelIdentifier, ContentLength, ContentType}
use Rattle.message.specs.declared.Known.TheVariants.{ActiveRequestIdList, KillOnBargeIn, ProxySyncId, LoggingTag}
use Rattle.message.specs.declared.Known.TheVariants.{Unknown, ConfidenceThreshold, FetchTimeout, NoInputTimeout}
use Rattle.message.specs.declared.Known.TheVariants.{SensitivityLevel}
use Rattle.names.specs.Names.{bit_of}
use Rattle.names.specs.Steps.{known_names, known_bit}

pub index_small : (k : Known) → index_of k < 12
index_small ChannelIdentifier = lit< tt
index_small ContentLength = lit< tt
index_small ContentType = lit< tt
index_small ActiveRequestIdList = lit< tt
index_small KillOnBargeIn = lit< tt
index_small ProxySyncId = lit< tt
index_small LoggingTag = lit< tt
index_small Unknown = lit< tt
index_small ConfidenceThreshold = lit< tt
index_small FetchTimeout = lit< tt
index_small NoInputTimeout = lit< tt
index_small SensitivityLevel = lit< tt

-- the names that count as known have their bits
module _ (params : Bool) where
  abbrev masked : ℕ → ℕ
  masked i = bit_and (2 ^ i) (known_names params)

  abbrev counted : ℕ → ℕ
  counted i = cond ((leb i 8 || params) && not (eqb i 7)) (2 ^ i) 0

each : (params : Bool) → from (masked params) 0 12 ≡ from (counted params) 0 12
each true = refl
each false = refl

known_bit_lem : (params : Bool) (k : Known) → known_bit params k ≡ cond (is_known params k) (bit_of k) 0
known_bit_lem params k = agree (masked params) (counted params) 0 12 (each params) (index_of k) (index_small k)

-- a name that counts as known is tested by its bit, another name never
pub test_name : (params : Bool) (m : ℕ) (k : Known)
    → eqb (bit_and m (known_bit params k)) 0 ≡ not (is_known params k && bit m (index_of k))
test_name params m k = ap (λ b. eqb (bit_and m b) 0) (known_bit_lem params k) ∙ go (is_known params k)
  where
    go : (b : Bool) → eqb (bit_and m (cond b (bit_of k) 0)) 0 ≡ not (b && bit m (index_of k))
    go true = test_any m (index_of k)
    go false = ap (λ n. eqb n 0) (and_zero_r m)

pub set_name : (m : ℕ) (j k : Known) → bit (bit_or m (bit_of j)) (index_of k) ≡ (is k j || bit m (index_of k))
set_name m j k = set_any m (index_of j) (index_of k)
