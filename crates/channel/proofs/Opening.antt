-- An opening, as it is kept and as it is viewed. Assumes nothing.
use Prim.Native.Nat.{ℕ, ◌≤◌}
use mathlib.Core.Path.{◌≡◌}
use mathlib.Core.Bool.{true, false}
use mathlib.Core.List.{List, []}
use lib.ListN.{length}
use Rattle.synth.specs.Channel.{well_named, fresh}
use Rattle.synth.specs.Calls as C
use Rattle.synth.specs.Calls.{open_channel}
use Rattle.queue.proofs.Queues.{none_outstanding}
use Rattle.channelnames.specs.Names.{kept_name}
use Rattle.channelnames.specs.declared.Name.{Name}
use Rattle.channelnames.proofs.Names.{name_kept}
use Rattle.channel.specs.Channel.{opened, kept}
use Rattle.channel.specs.declared.Channel.{Channel}

module _ (name : List ℕ) where
  pub opens : well_named name ≡ true → open_channel name ≡ record { number = 0; channel = fresh name }
  unfolding open_channel
  opens e = rw (e, open_channel)

  pub refuses : well_named name ≡ false → open_channel name ≡ record { number = 10; channel = fresh [] }
  unfolding open_channel
  refuses e = rw (e, open_channel)

pub opened_as : (number : ℕ) (name : List ℕ) {n : Name} {c : Channel} {o : C.Opened} → length name ≤ 44 → n ≡ kept_name name → c ≡ kept n
    → o ≡ record { number = number; channel = fresh name } → opened (record { number = number; channel = c }) ≡ o
opened_as number name h k e f = rw (e, k, f, name_kept name h, none_outstanding)
