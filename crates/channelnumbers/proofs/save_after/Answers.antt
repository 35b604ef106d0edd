-- `channelnumbers::save_after` puts the further edition in front, tidies them, and saves in front of them. Assumes
-- nothing.
use Prim.Native.Nat.{ℕ}
use mathlib.Core.Path.{◌≡◌, sym, ap, subst, ◌∙◌}
use mathlib.Core.Bool.{true}
use mathlib.Core.Option.{some}
use mathlib.Core.List.{List}
use Rattle.std.specs.Prelude.{Option, Some, None}
use Rattle.answer.specs.declared.Kind.{Kind}
use Rattle.synth.specs.Settings.{further, is_edition_of}
use Rattle.synth.specs.Channel.{are_editions}
use Rattle.synth.specs.declared.Edition.{Edition}
use Rattle.synth.proofs.Editions.{newest_own}
use Rattle.settings.specs.Kept.{further_on}
use Rattle.channelnames.specs.Names.{name_of, kind_by}
use Rattle.channel.specs.Channel.{view}
use Rattle.channelnumbers.specs.Numbers.{editions_in}
use Rattle.channelnumbers.proofs.Saving.{editions_four, saved_after}
use Rattle.channelnumbers.proofs.save_after.Goals as goal
use Rattle.channelnumbers.proofs.save_after.Goals.{in_default, in-Some}

-- what stands there before they are tidied
abbrev Stands : Kind → List ℕ → List Edition → Type 0
Stands kind w es = editions_in kind w ≡ some es

unpushed : (kind : Kind) (f : Option Edition) {w mid : List ℕ} (es : List Edition) → f ≡ None → mid ≡ w
    → Stands kind w es → Stands kind mid (further_on f es)
unpushed kind f es told is s = ap (editions_in kind) is ∙ s ∙ ap (λ (f : Option Edition). some (further_on f es)) (sym told)

pushed : (kind : Kind) (f : Option Edition) {after mid : List ℕ} (e : Edition) (es : List Edition) → f ≡ Some e
    → mid ≡ after → are_editions kind (further_on f es) ≡ true → (is_edition_of kind e ≡ true → Stands kind after (further e es))
    → Stands kind mid (further_on f es)
pushed kind f e es told is fit push =
    let own : is_edition_of kind e ≡ true =
    newest_own kind (further e es) (subst (λ (f : Option Edition). are_editions kind (further_on f es) ≡ true) told fit) in
    ap (editions_in kind) is ∙ push own ∙ ap (λ (f : Option Edition). some (further_on f es)) (sym told)

pub returns : goal.returns
returns c =
    let a = c.args in
    let ours = kind_by (name_of a.c.name) in
    let kind = c.kind_by-kind.ensures in
    let tidied = rw kind at c.tidy_editions.ensures in
    λ es read few fit short queue.
    let on = further_on a.further es in
    let four = editions_four ours on fit in
    let m = c.match-further in
    let s : Stands ours m.ws on = elim m.branch [
      | in_default b ↦ unpushed ours a.further es b.in_default.is b.ws-is read
      | in-Some b ↦ pushed ours a.further _ es b.in-Some.is b.ws-is fit (rw kind at b.push_edition.ensures es read few)
    ] in
    saved_after (view a.last a.c on) queue short m.ws m.array_long (tidied on s four) (c.save.ensures on short queue)
