-- What a name shows of the array and the size behind it. Assumes nothing.
use Prim.Native.Nat.{ℕ, ◌-◌, ◌≤◌}
use mathlib.Core.Path.{◌≡◌, sym, ◌∙◌}
use mathlib.Core.List.{List, map, append-nil}
use native.Mathlib.Omega.{arith}
use lib.ListN.{length, take, length-append, length-map, length-take, length-replicate}
use lib.Seq.{take-append_seam}
use mir.Val.{Val}
use denote.Laws.{Is}
use Rattle.channelnames.specs.Names.{name_of, kept_name}
use Rattle.channelnames.specs.declared.Name.{Name}
use Rattle.channelnames.specs.contracts.Name.{the_row}

pub length_of : (X Y : Type 0) (f : X → Y) (l : List X) (n : ℕ) → length (map f l) ≡ n → length l ≡ n
length_of X Y f l n p = sym (length-map l f) ∙ p

-- a name is as long as its size says
pub sized : (n : Name) → length n.bytes ≡ 44 → length (name_of n) ≡ n.size
unfolding name_of
sized n h = simp (length-append, length-take, length-replicate, h) (omega arith)

module _ (n : Name) (vs : List Val) (good : Is the_row n vs) where
  pub bytes_44 : length n.bytes ≡ 44
  bytes_44 = search length_of

  pub size_is : length (name_of n) ≡ n.size
  size_is = sized n bytes_44

pub within : (n : Name) → n.size ≤ 44 → name_of n ≡ take n.size n.bytes
unfolding name_of
within n h = let z : n.size - 44 ≡ 0 = omega arith in rw (z, append-nil)

pub name_kept : (name : List ℕ) → length name ≤ 44 → name_of (kept_name name) ≡ name
unfolding name_of
name_kept name h = let z : length name - 44 ≡ 0 = omega arith in rw (z, take-append_seam, append-nil)
