-- The channel that the code keeps, with the last id seen beside it, as document 01 views it.
use Rattle.std.specs.Prelude.{ℕ, List, [], ◌∷◌, Option, None}
use Rattle.synth.specs.Settings.{unset}
use Rattle.synth.specs.Channel.{View}
use Rattle.synth.specs.Calls as C
use Rattle.synth.specs.declared.State.TheVariants.{Idle}
use Rattle.synth.specs.declared.Edition.{Edition}
use Rattle.channelnames.specs.Names.{name_of}
use Rattle.channelnames.specs.declared.Name.{Name}
use Rattle.queue.specs.Queue.{list_of, empty_queue}
use Rattle.channel.specs.declared.Channel.{Channel}
use Rattle.channel.specs.declared.Current.{Current}
use Rattle.channel.specs.declared.Opened.{Opened}

-- with the editions that the caller keeps beside it
abbrev pub view : Option ℕ → Channel → List Edition → View
view last c es =
    record { name = name_of c.name; state = c.state; queue = list_of c.queue; last = last; editions = es }

-- the same of what a request is judged on, with editions of which its settings are the newest
abbrev pub view_on : Option ℕ → Current → List Edition → View
view_on last c es =
    record { name = name_of c.name; state = c.state; queue = list_of c.queue; last = last; editions = es }

abbrev pub current_of : Channel → Edition → Current
current_of c set = record { name = c.name; state = c.state; queue = c.queue; set = set }

-- an opening as the paper has it: a fresh channel's one edition has every setting unset
abbrev pub opened : Opened → C.Opened
opened o = record { number = o.number; channel = view None o.channel (unset ∷ []) }

-- an opened channel as it is kept
abbrev pub kept : Name → Channel
kept name = record { name = name; state = Idle; queue = empty_queue }
