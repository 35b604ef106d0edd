-- What a header tells of the fields that were read, in the terms of the judgement.
use Rattle.std.specs.Prelude.{ℕ, ◌≡◌, Bool, true, false, not, List, eqb, get_or, Option, Some, None}
use Rattle.lists.specs.Lists.{all, is_empty, bit}
use Rattle.message.specs.Message.{Fields, fields_in}
use Rattle.message.specs.Known.{index_of, is_known, among, names_of, judged_value}
use Rattle.message.specs.Reading.{body_in}
use Rattle.message.specs.declared.Span.{Span}
use Rattle.message.specs.declared.Known.{Known}
use Rattle.names.specs.Names.{bit_of}
use Rattle.header.specs.Header.{nowhere}
use Rattle.header.specs.declared.Header.{Header}
use Rattle.synth.specs.Request.{is_good}
use Rattle.values.specs.Values.{given_of}
use Rattle.values.specs.Steps.{meets, given_by}

-- the value of the name k, by its bit in the mask and its place
abbrev pub value_by : Header → Known → Option Span
value_by h k = given_by h.mask (bit_of k) (get_or h.values (index_of k) nowhere)

-- what a header tells of the fields fs, whose frame is f: the value of each name that counts as known
pub record Tells (params : Bool) (f : List ℕ) (h : Header) (fs : Fields (List ℕ)) : Type 0 where
  pub value : (k : Known) → is_known params k ≡ true → given_of f (value_by h k) ≡ judged_value k (fields_in fs)
  pub body : eqb h.body.len 0 ≡ is_empty (body_in fs)
  pub came : (k : Known) → bit h.mask (index_of k) ≡ among k (names_of (fields_in fs))
  pub names : (set : ℕ) → meets h.mask set ≡ not (all (λ k. not (bit set (index_of k))) (names_of (fields_in fs)))

-- what reading the fields fs of the frame f gives: no header where they are bad, else one that tells of them. `Tells`
-- is of a header alone, so what a method does need not ask whether the fields were good
abbrev pub Told : Bool → List ℕ → Option Header → Fields (List ℕ) → Type 0
Told params f None fs = is_good fs ≡ false
Told params f (Some h) fs = (is_good fs ≡ true) × Tells params f h fs
