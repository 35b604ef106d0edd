-- What is loaded of the numbers that a C caller keeps.
use Rattle.std.specs.Prelude.{ℕ, ◌≡◌, true, List}
use Rattle.std.proofs.Math.Option.{some}
use Rattle.synth.specs.Settings.{newest}
use Rattle.synth.specs.Channel.{shaped, sound}
use Rattle.synth.specs.declared.Edition.{Edition}
use Rattle.channelnames.specs.Names.{name_of, kind_by}
use Rattle.channel.specs.Channel.{view}
use Rattle.channelnumbers.specs.Numbers.{editions_in, view_of, is_sound}
use Rattle.loading.specs.declared.Loaded.{Loaded}

-- what is loaded: the channel that the numbers are where that is sound, and one that is not sound where they are none
pub record Loads (ws : List ℕ) (r : Loaded) : Type 0 where
  pub editions : List Edition  -- those that stand in the numbers; of no sound channel, any with those settings
  pub set : newest editions ≡ r.set
  pub fit : sound (view r.last r.channel editions) ≡ shaped (view r.last r.channel editions)
  pub soundness : is_sound (view_of ws) ≡ sound (view r.last r.channel editions)
  pub same : is_sound (view_of ws) ≡ true → view_of ws ≡ some (view r.last r.channel editions)
  pub stand : is_sound (view_of ws) ≡ true → editions_in (kind_by (name_of r.channel.name)) ws ≡ some editions
