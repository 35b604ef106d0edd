-- `client::tell` writes the settings asked for under the channel's name. Assumes nothing.
use mathlib.Core.Path.{◌≡◌, sym, ap, ap₂, ◌∙◌}
use mathlib.Core.List.{List, map}
use native.Mathlib.Omega.{arith}
use lib.ListN.{take, length-take}
use lib.Seq.{length-take-le}
use Rattle.message.specs.declared.RequestState.TheVariants.{Complete}
use Rattle.synth.specs.Kinds.{kind_of}
use Rattle.synth.specs.Settings.{setting_field}
use Rattle.answer.specs.Written.{fields_text}
use Rattle.told.specs.Told.{told}
use Rattle.sizes.specs.Steps.{telling_of}
use Rattle.output.specs.Delivery.{counted, delivered}
use Rattle.output.proofs.Pieces.{tells}
use Rattle.channelnames.specs.Names.{name_of}
use Rattle.channelnames.proofs.Names.{bytes_44, within}
use Rattle.client.specs.Turns.{settings_told}
use Rattle.client.proofs.tell.Goals as goal
use Rattle.client.proofs.tell.Goals.{After-tell}

pub shared_ref_as_front-tell : goal.shared_ref_as_front-tell
shared_ref_as_front-tell c = omega (arith, bytes_44 c.args.name _ c.well_formed.0, c.requires)

pub slice_bounds-tell-end : goal.slice_bounds-tell-end
slice_bounds-tell-end c =
    let name = c.args.name in
    sym (length-take-le name.size name.bytes (omega (arith, bytes_44 name _ c.well_formed.0, c.requires)))

pub shared_ref_as_front-tell-2 : goal.shared_ref_as_front-tell-2
shared_ref_as_front-tell-2 c = c.text-fields.ensures.1

pub slice_bounds-tell-end-2 : goal.slice_bounds-tell-end-2
slice_bounds-tell-end-2 c = simp length-take (omega arith)

-- what is written is what the definition tells
told_is : (c : After-tell) → let a = c.args in
    a.a.state ≡ Complete
    → telling_of (take a.name.size a.name.bytes) a.a (take c.text-fields.result.count c.text-fields.result.bytes)
    ≡ settings_told (name_of a.name) a.set a.a a.asked
told_is c e =
    let at = c in
    let a = at.args in
    let fs = map (setting_field a.set) (told (kind_of (name_of a.name)) a.asked) in
    ap₂ (λ (n t : List _). telling_of n a.a t) (sym (within a.name at.requires))
    (c.text-fields.ensures.0 ∙ ap (λ k. fields_text (map (setting_field a.set) (told k a.asked))) c.kind.ensures)
    ∙ tells (name_of a.name) a.a fs e

pub returns : goal.returns
returns c =
    let a = c.args in
    let r = c.tell.ensures in record {
      value = λ e. r.value ∙ ap (λ l. counted l a.out.now) (told_is (goal.at.returns c).After-tell e);
      out_after = λ e. r.out_after ∙ ap (λ l. delivered l a.out.now) (told_is (goal.at.returns c).After-tell e);
    }
