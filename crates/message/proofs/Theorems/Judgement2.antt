-- What judgement 2 lets pass: the body ends where the frame ends and Content-Length agrees with it, so that neither length is believed
-- over the other; at most 32 fields, each with a name of 1 to 64 bytes; no name twice that counts as known.
-- Assumes nothing.
use mathlib.Core.Path.{◌≡◌, sym, ◌∙◌}
use mathlib.Core.Bool.{true}
use mathlib.Core.Option.{none, some}
use mathlib.Core.List.{List, map}
use Prim.Native.Nat.{ℕ, ◌+◌, ◌≤◌}
use native.Mathlib.Omega.{arith}
use lib.Dec.{eqb}
use lib.ListN.{length, take}
use borrow.Author.Tests.{eqb-true}
use Rattle.lists.specs.Lists.{All}
use Rattle.lists.proofs.Tests.{both}
use Rattle.readers.specs.Words.{is_number, number_of}
use Rattle.message.specs.Message.{Start, Field, good, Head, message, part, on_field}
use Rattle.message.specs.Known.{once_each, names_of, value_of}
use Rattle.message.specs.Reading.{agrees, asks_params, reading}
use Rattle.message.specs.declared.Span.{Span}
use Rattle.message.specs.declared.Known.TheVariants.{ContentLength}
use Rattle.message.proofs.Says.{frame_length_lem, says}
use Rattle.message.proofs.Rows.{NameFits}
use Rattle.message.proofs.Parts.{rows_within}
use Rattle.message.proofs.Theorems.JudgedAlike.{lengths_alike}

module _ (s : List ℕ) (h : Head) (st : Start Span) (fs : List (Field Span)) (body : Span) (e : reading s ≡ message h st (good fs body)) where
  pub body_ends : body.start + body.len ≡ h.stated
  body_ends = let t = says s h st (good fs body) e in t.fields.ends ∙ frame_length_lem s _ _ _ _ t.frame

  -- the fields' bytes in the frame are those in s
  pub texts : map (on_field (part (take h.stated s))) fs ≡ map (on_field (part s)) fs
  texts = let t = says s h st (good fs body) e in rows_within h.stated s t.at fs body.start t.fields.rows (omega (arith, body_ends))

  pub length_agrees : agrees (value_of ContentLength (map (on_field (part s)) fs)) body.len ≡ true
  length_agrees =
      sym (lengths_alike (value_of ContentLength (map (on_field (part s)) fs)) body.len)
      ∙ rw texts at (says s h st (good fs body) e).fields.agreed

  -- a Content-Length is the number of the body's bytes, which are all that remain of the stated length; without one there is no body
  pub given_length : (v : List ℕ) → value_of ContentLength (map (on_field (part s)) fs) ≡ some v → number_of v ≡ body.len
  given_length v g = eqb-true (number_of v) body.len (both (is_number 19 v) (eqb (number_of v) body.len) (rw g at length_agrees)).1

  pub no_length : value_of ContentLength (map (on_field (part s)) fs) ≡ none → body.len ≡ 0
  no_length g = sym (eqb-true 0 body.len (rw g at length_agrees))

  pub few : length fs ≤ 32
  few = (says s h st (good fs body) e).fields.few

  pub names_fit : All NameFits fs
  names_fit = (says s h st (good fs body) e).fields.names

  pub once : once_each (asks_params (take h.stated s) st) (names_of (map (on_field (part s)) fs)) ≡ true
  once = rw texts at (says s h st (good fs body) e).fields.once
