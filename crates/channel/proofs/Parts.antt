-- What the shape of a channel says of it, and of the array behind its name. Assumes nothing.
use Prim.Native.Nat.{ℕ, ◌≤◌}
use mathlib.Core.Path.{◌≡◌, refl, sym}
use mathlib.Core.Bool.{Bool, true, false, not, ◌&&◌, beq}
use mathlib.Core.List.{List}
use lib.ListN.{length}
use mir.Val.{Val}
use denote.Laws.{Is}
use borrow.Author.Tests.{leb-true}
use Rattle.std.specs.Prelude.{Option}
use Rattle.lists.specs.Lists.{is_empty}
use Rattle.lists.proofs.Tests.{both}
use Rattle.synth.specs.Kinds.{most, is_state_of}
use Rattle.synth.specs.Channel.{View, kind, well_named, is_busy, idle_unseen, shaped, are_editions, are_levels, sound}
use Rattle.synth.specs.declared.Edition.{Edition}
use Rattle.queue.proofs.Queues.{all_levels}
use Rattle.channelnames.specs.Names.{name_of}
use Rattle.channelnames.proofs.Names.{length_of, sized}
use Rattle.channelnames.proofs.Fits.{name_fits_lem}
use Rattle.channel.specs.Channel.{view}
use Rattle.channel.specs.declared.Channel.{Channel}
use Rattle.channel.specs.contracts.Channel.{the_row}

-- a channel of that shape has a well-formed name
pub shape_named : (v : View) → shaped v ≡ true → well_named v.name ≡ true
unfolding shaped
shape_named v e =
    (both _ _ (both _ _ (both _ _ (both _ _ (both _ _ (both _ _ e).0).0).0).0).0).0

-- and no more outstanding than its kind has
pub shape_few : (v : View) → shaped v ≡ true → length v.queue ≤ most (kind v)
unfolding shaped
shape_few v e =
    let front : Bool =
    well_named v.name && is_state_of (kind v) v.state && beq (is_busy v.state) (not (is_empty v.queue))
    && idle_unseen v.last v.state in
    leb-true (length v.queue) (most (kind v)) (both front _ (both _ _ (both _ _ e).0).0).1

pub unshaped : (v : View) → shaped v ≡ false → sound v ≡ false
unfolding sound
unshaped v e = rw e

by_editions : (v : View) → shaped v ≡ true → are_levels v.queue ≡ true → are_editions (kind v) v.editions ≡ sound v
unfolding sound
by_editions v e l = rw (e, l) (sym (and_true (are_editions (kind v) v.editions)))
  where
    and_true : (b : Bool) → (b && true) ≡ b
    and_true true = refl
    and_true false = refl

-- what soundness comes to on a channel by value: its shape, and its editions
pub shaped_sound : (last : Option ℕ) (c : Channel) (es : List Edition) → shaped (view last c es) ≡ true
    → are_editions (kind (view last c es)) es ≡ sound (view last c es)
shaped_sound last c es e = by_editions (view last c es) e (all_levels c.queue)

module _ (c : Channel) (vs : List Val) (good : Is the_row c vs) where
  pub bytes_44 : length c.name.bytes ≡ 44
  bytes_44 = search length_of

  -- the name of a channel of that shape is within it
  pub size_short : (last : Option ℕ) (es : List Edition) → shaped (view last c es) ≡ true → c.name.size ≤ 44
  size_short last es s = rw (sized c.name bytes_44) at (name_fits_lem (name_of c.name) (shape_named (view last c es) s))
