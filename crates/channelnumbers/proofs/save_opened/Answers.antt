-- `channelnumbers::save_opened` saves in front of a fresh channel's one edition. Assumes nothing.
use mathlib.Core.Path.{ap, ◌∙◌}
use mathlib.Core.List.{List, [], ◌∷◌, ◌++◌}
use Prim.Native.Nat.{ℕ}
use lib.ListN.{take}
use Rattle.std.specs.Prelude.{None}
use Rattle.synth.specs.Settings.{unset}
use Rattle.channelnames.specs.Names.{name_of, kind_by}
use Rattle.channel.specs.Channel.{view}
use Rattle.channelnumbers.specs.Numbers.{numbers_of}
use Rattle.channelnumbers.proofs.Saving.{fresh_part, all_89}
use Rattle.channelnumbers.proofs.save_opened.Goals as goal

pub returns : goal.returns
returns c =
    let ch = c.args.c in
    let v = view None ch (unset ∷ []) in
    λ short few.
    c.save.ensures (unset ∷ []) short few
    ∙ ap (λ (l : List ℕ). take 64 (numbers_of v) ++ l) (fresh_part (kind_by (name_of ch.name)))
    ∙ all_89 v few short
