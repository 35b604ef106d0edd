-- `channelnames::well_named` takes the tests of a name in turn. Assumes nothing.
use Prim.Native.Nat.{ℕ, ◌+◌, ◌-◌, ◌≤◌}
use mathlib.Core.Path.{◌≡◌, sym, ap, ◌∙◌}
use mathlib.Core.Logic.{inl, inr}
use mathlib.Core.List.{List}
use native.Mathlib.Omega.{arith}
use lib.ListN.{length}
use Rattle.lists.specs.Lists.{same}
use Rattle.octets.specs.Octets.{bytes}
use Rattle.answer.specs.declared.Kind.{Kind}
use Rattle.channelnames.proofs.Parts.{part_to_end}
use Rattle.channelnames.proofs.Words.{too_short, too_long, ends_in_lem, ends_otherwise}
use Rattle.channelnames.proofs.well_named.Goals as goal

pub returns-then-name-le-RESOURCE : goal.returns-then-name-le-RESOURCE
returns-then-name-le-RESOURCE c =
    elim c.then-name-le-RESOURCE.either [
      | inl few ↦ too_short c.args.name.now few
      | inr many ↦ too_long c.args.name.now (omega (arith, many))
    ]

pub returns-then-not-has_word : goal.returns-then-not-has_word
returns-then-not-has_word c = sym (c.has_word.ensures.1 c.if-not-has_word.true)

pub returns-then-equal : goal.returns-then-equal
returns-then-equal c =
    let name = c.args.name.now in
    let k = length name - 12 in
    let place : length name ≡ k + 12 = omega arith in
    let some : 1 ≤ k = omega arith in
    let most : k ≤ 32 = omega arith in
    let word = c.has_word.ensures.0 c.if-not-has_word.false in
    let tail = ap (λ (l : List ℕ). same l (bytes "@speechsynth")) (sym (part_to_end name k)) ∙ sym c.equal.ensures ∙ c.if-equal.true in
    c.if-equal.true ∙ ends_in_lem name k place word some most Kind.Synthesizer tail

pub returns-else-equal : goal.returns-else-equal
returns-else-equal c =
    let name = c.args.name.now in
    let k = length name - 12 in
    let place : length name ≡ k + 12 = omega arith in
    let some : 1 ≤ k = omega arith in
    let most : k ≤ 32 = omega arith in
    let word = c.has_word.ensures.0 c.if-not-has_word.false in
    let other = ap (λ (l : List ℕ). same l (bytes "@speechsynth")) (sym (part_to_end name k)) ∙ sym c.equal.ensures ∙ c.if-equal.false in
    ends_otherwise name k place word some most c.equal-else-equal.result other
    (c.equal-else-equal.ensures ∙ ap (λ (l : List ℕ). same l (bytes "@speechrecog")) (part_to_end name k))
