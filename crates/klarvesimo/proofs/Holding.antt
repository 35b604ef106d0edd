-- The ids held, handed over. Assumes nothing.
use Prim.Native.Nat.{ℕ, ◌≤◌, ◌<◌}
use mathlib.Core.Path.{◌≡◌, refl, sym, ap, ◌∙◌}
use mathlib.Core.Bool.{true, false}
use mathlib.Core.Option.{Option, none, some}
use mathlib.Core.List.{List, [], ◌∷◌, ◌++◌}
use native.Mathlib.Omega.{arith}
use lib.ListN.{length, take, drop, set}
use borrow.Author.Tests.{lt-ltb, le-ltb}
use Rattle.synth.specs.Channel.{View, held, sound}
use Rattle.channel.specs.Channel.{view}
use Rattle.queue.specs.Queue.{Lists}
use Rattle.queue.specs.declared.Ids.{Ids}
use Rattle.channelnumbers.specs.Numbers.{view_of, is_sound}
use Rattle.loading.specs.Loading.{Loads}
use Rattle.loading.specs.declared.Loaded.{Loaded}
use Rattle.klarvesimo.specs.Face.{fitting, held_on, held_face}

-- a count that is 0 first, and then told
pub count_again : (l : List ℕ) (x : ℕ) → set (set l 0 0) 0 x ≡ set l 0 x
count_again [] x = refl
count_again (a ∷ l) x = refl

module _ (ws out : List ℕ) (l : Loaded) (is : Loads ws l) where
  abbrev v : View
  v = view l.last l.channel is.editions

  -- numbers that are no sound channel
  unsound : is_sound (view_of ws) ≡ false → record { number = 21; count = 0; ids = out } ≡ held_face ws out
  unfolding held_face
  unsound h = go (view_of ws) h
    where
      go : (o : Option View) → is_sound o ≡ false → record { number = 21; count = 0; ids = out } ≡ held_on o out
      go none h = refl
      go (some v) h = rw (h, held_on)

  pub held_unsound : sound v ≡ false → record { number = 21; count = 0; ids = out } ≡ held_face ws out
  held_unsound h = unsound (is.soundness ∙ h)

  module _ (sane : sound v ≡ true) where
    sound_face : held_face ws out ≡ fitting (held v) out
    unfolding held_face
    sound_face = ap (λ (o : Option View). held_on o out) (is.same (is.soundness ∙ sane)) ∙ rw (sane, held_on)

    module _ (r : Ids) (h : Lists (held v) r) where
      pub held_short : length out < r.count → record { number = 7; count = 0; ids = out } ≡ held_face ws out
      held_short k =
          let short : length out < length (held v) = omega (arith, h.counted) in
          sym (sound_face ∙ rw (lt-ltb (length out) (length (held v)) short, fitting))

      pub held_listed : r.count ≤ length out
          → record { number = 0; count = r.count; ids = take r.count r.ids ++ drop (length (take r.count r.ids)) out } ≡ held_face ws out
      held_listed k =
          let fits : length (held v) ≤ length out = omega (arith, h.counted) in
          rw (h.shown, h.counted) (sym (sound_face ∙ rw (le-ltb (length out) (length (held v)) fits, fitting)))
