-- A header that was read tells what the definitions say of its fields; and what the judgement asks of a request is told
-- with it.
-- Assumes nothing.
use mathlib.Core.Path.{◌≡◌, refl, sym, ap, ◌∙◌}
use mathlib.Core.Bool.{Bool, true, false, not}
use mathlib.Core.Option.{none, some}
use mathlib.Core.List.{List, [], ◌∷◌, map}
use Prim.Native.Nat.{ℕ, ◌+◌}
use Rattle.std.specs.Prelude.{Some, None}
use native.Mathlib.Omega.{arith}
use lib.Bits.{bit_and}
use lib.Dec.{eqb}
use lib.ListN.{length, get_or, length-take, length-drop}
use borrow.Author.Tests.{eq-eqb, ne_eqb}
use Rattle.lists.specs.Lists.{all, is_empty, bit}
use Rattle.message.specs.Message.{Field, Fields, bad, good, fields_in, part, on_field, on_fields}
use Rattle.message.specs.Known.{index_of, is_known, once_each, names_of, as_joined, judged_value}
use Rattle.message.specs.declared.Span.{Span}
use Rattle.message.specs.declared.Known.{Known}
use Rattle.message.specs.declared.Known.TheVariants.{ChannelIdentifier, ContentLength, ContentType}
use Rattle.message.specs.declared.Known.TheVariants.{ActiveRequestIdList, KillOnBargeIn, ProxySyncId, LoggingTag}
use Rattle.message.specs.declared.Known.TheVariants.{Unknown, ConfidenceThreshold, FetchTimeout, NoInputTimeout, SensitivityLevel}
use Rattle.message.proofs.Says.{Judged}
use Rattle.names.specs.Names.{bit_of, names_in}
use Rattle.names.proofs.Marks.{came}
use Rattle.names.proofs.Theorems.NamesOfASet.{none_of_set}
use Rattle.header.specs.Header.{nowhere, header_of, header_in}
use Rattle.header.specs.declared.Header.{Header}
use Rattle.header.proofs.Theorems.ValueByMask.{value_by_mask}
use Rattle.synth.specs.Request.{ignored, ignores_any}
use Rattle.synth.specs.declared.Method.{Method}
use Rattle.values.specs.Values.{given_of}
use Rattle.values.specs.Steps.{meets}
use Rattle.request.specs.Telling.{Tells, Told, value_by}

module _ (params : Bool) (f : List ℕ) where
  by_place : (p : Span) (t : Bool)
      → given_of f (elim (not t) [ true ↦ Some p | false ↦ None ])
      ≡ as_joined (elim t [ true ↦ none | false ↦ some (part f p) ])
  by_place p true = refl
  by_place p false = refl

  none_left : (l : List ℕ) (n : ℕ) → n ≡ length l → eqb n 0 ≡ is_empty l
  none_left [] n e = eq-eqb n 0 e
  none_left (x ∷ l) n e = ne_eqb n 0 (λ z. let q : n ≡ 0 = z in omega arith)

  module _ (fs : List (Field Span)) (body : Span) (once : once_each params (names_in f fs) ≡ true)
      (ends : body.start + body.len ≡ length f) where
    abbrev h : Header
    h = header_in f fs body

    valued : (k : Known) → is_known params k ≡ true → given_of f (value_by h k) ≡ judged_value k (map (on_field (part f)) fs)
    valued k known =
        let p : Span = get_or h.values (index_of k) nowhere in
        by_place p (eqb (bit_and h.mask (bit_of k)) 0)
        ∙ sym (ap as_joined (value_by_mask params f fs body once k known))

    something : Tells params f h (on_fields (part f) (good fs body))
    something = record {
      value = valued;
      came = λ k. came (names_in f fs) k;
      body = none_left (part f body) body.len (simp (length-take, length-drop) (omega arith));
      names = λ set. ap not (none_of_set set (names_in f fs));
    }

  pub told : (at : ℕ) (x : Fields Span) → Judged params f at x → Told params f (header_of f x) (on_fields (part f) x)
  told at bad j = refl
  told at (good fs body) j = (refl, something fs body j.once j.ends)

-- tests that agree on the list of all names agree on each
abbrev pub each : List Known
each =
    ChannelIdentifier ∷ ContentLength ∷ ContentType ∷ ActiveRequestIdList ∷ KillOnBargeIn ∷ ProxySyncId ∷ LoggingTag
    ∷ Unknown ∷ ConfidenceThreshold ∷ FetchTimeout ∷ NoInputTimeout ∷ SensitivityLevel ∷ []

pub on_each : (a b : Known → Bool) → map a each ≡ map b each → (k : Known) → a k ≡ b k
on_each a b e ChannelIdentifier = ap (λ l. get_or l 0 true) e
on_each a b e ContentLength = ap (λ l. get_or l 1 true) e
on_each a b e ContentType = ap (λ l. get_or l 2 true) e
on_each a b e ActiveRequestIdList = ap (λ l. get_or l 3 true) e
on_each a b e KillOnBargeIn = ap (λ l. get_or l 4 true) e
on_each a b e ProxySyncId = ap (λ l. get_or l 5 true) e
on_each a b e LoggingTag = ap (λ l. get_or l 6 true) e
on_each a b e Unknown = ap (λ l. get_or l 7 true) e
on_each a b e ConfidenceThreshold = ap (λ l. get_or l 8 true) e
on_each a b e FetchTimeout = ap (λ l. get_or l 9 true) e
on_each a b e NoInputTimeout = ap (λ l. get_or l 10 true) e
on_each a b e SensitivityLevel = ap (λ l. get_or l 11 true) e

-- a set of the names that are ignored in a method tells whether the request ignores one
pub ignores : (params : Bool) (f : List ℕ) (h : Header) (fs : Fields (List ℕ)) → Tells params f h fs
    → (major minor id : ℕ) (m : Method) (set : ℕ)
    → map (λ k. bit set (index_of k)) each ≡ map (ignored m) each
    → meets h.mask set ≡ ignores_any (record { major = major; minor = minor; method = m; id = id; fields = fs })
unfolding ignores_any
ignores params f h fs w major minor id m set e =
    w.names set ∙ (λ z. not
    (all (λ k. not (on_each (λ k. bit set (index_of k)) (ignored m) e k z)) (names_of (fields_in fs))))
