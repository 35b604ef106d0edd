-- The length of a well-formed name. Assumes nothing.
use Prim.Native.Nat.{ℕ, ◌≤◌, ◌<◌}
use mathlib.Core.Path.{◌≡◌, ap, ◌∙◌}
use mathlib.Core.Bool.{true, false, ◌&&◌, ◌||◌}
use mathlib.Core.List.{List}
use native.Mathlib.Omega.{arith}
use lib.Dec.{leb}
use lib.ListN.{length, drop, length-drop}
use borrow.Author.Tests.{leb-true}
use Rattle.lists.specs.Lists.{run, same}
use Rattle.lists.proofs.Tests.{refuted, both}
use Rattle.lists.proofs.Scans.{same_so}
use Rattle.octets.specs.Octets.{is_letter, is_digit}
use Rattle.synth.specs.Kinds.{resource, kind_of}
use Rattle.synth.specs.Channel.{well_named}
use Rattle.channelnames.proofs.Tails.{resource_length}

pub name_fits_lem : (name : List ℕ) → well_named name ≡ true → length name ≤ 44
unfolding well_named
name_fits_lem name e =
    let k : ℕ = run (λ b. is_letter b || is_digit b) name in
    let p = both (leb 1 k && leb k 32) (same (drop k name) (resource (kind_of name))) e in
    let q = both (leb 1 k) (leb k 32) p.0 in
    let few : k ≤ 32 = leb-true k 32 q.1 in
    let rest : length (drop k name) ≡ 12 = ap length (same_so (drop k name) (resource (kind_of name)) p.1) ∙ resource_length (kind_of name) in
    omega (arith, length-drop k name)

pub name_too_long : (name : List ℕ) → 44 < length name → well_named name ≡ false
name_too_long name h = refuted (well_named name) (λ e. omega (arith, name_fits_lem name e))
