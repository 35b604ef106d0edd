-- `client::handle_line` judges a request, and refuses what is none. Assumes nothing.
use mathlib.Core.Path.{◌≡◌, refl, sym, ap, subst}
use mathlib.Core.Bool.{true}
use Prim.Native.Nat.{◌<◌}
use lib.ListN.{length}
use mathlib.Core.List.{List}
use Rattle.message.specs.Message.{InRange, request, part, on_fields}
use Rattle.message.specs.Reading.{asks_params, fields_from}
use Rattle.synth.specs.Kinds.{method_in}
use Rattle.synth.specs.Settings.{newest}
use Rattle.synth.specs.Channel.{View, kind, sound}
use Rattle.synth.specs.declared.Edition.{Edition}
use Rattle.synth.specs.Request.{method_of}
use Rattle.synth.specs.States as S
use Rattle.outcomes.specs.Outcomes.{asked}
use Rattle.judgement.specs.Judged.{Judges}
use Rattle.startline.specs.StartLine.{start_of}
use Rattle.startline.specs.declared.Start.{Start}
use Rattle.channel.specs.Channel.{view}
use Rattle.calls.proofs.Leaving.{turned, leaves_refused}
use Rattle.client.specs.Turns.{line_turn}
use Rattle.client.proofs.Messages.{on_channel, no_request}
use borrow.Author.Rules.{rules}
use Rattle.client.proofs.handle_line.Goals as goal
use Rattle.client.proofs.handle_line.Goals.{After-judge-j}

pub overflow_cast-id : goal.overflow_cast-id
overflow_cast-id c =
    let small : c.in-Request.id < 4294967296 = subst (λ (x : Start). InRange (start_of x)) c.in-Request.is c.requires.in_range in
    search rules

-- the request, on a channel
abbrev Comes : (c : After-judge-j) → View → Type 0
Comes c v =
    let a = c.args in
    let f = a.f.now in
    Judges v c.judge-j.result (S.judge v (asked a.frame.major a.frame.minor (method_in (kind v) (method_of (part f c.in-Request.name))) c.in-Request.id
    (on_fields (part f) (fields_from (asks_params f (request c.in-Request.name c.in-Request.id)) f a.line.next))))

comes : (c : After-judge-j) → let a = c.args in
    (es : List Edition) → newest es ≡ a.set → sound (view a.last a.c es) ≡ true → Comes c (view a.last a.c es)
comes c es n s =
    let at = c in
    on_channel at.args.last at.args.c at.args.set es _ (Comes c) c.present-now.ensures n s c.judge-j.ensures

pub deliver-requires : goal.deliver-requires
deliver-requires c = c.requires.size_bound

pub returns-in_default : goal.returns-in_default
returns-in_default c es n s =
    let a = c.args in
    leaves_refused a.out.now refl
    (no_request (view a.last a.c es) (length a.out.now) a.f.now a.frame.major a.frame.minor a.line.next a.line.start c.in_default.not-Request)

pub returns : goal.returns
returns c es n s =
    let a = c.args in
    let turn = line_turn (view a.last a.c es) (length a.out.now) a.f.now a.frame.major a.frame.minor a.line.next in
    turned (ap turn (sym c.in-Request.is)) (c.deliver.ensures es _ n (comes (goal.at.returns c).After-judge-j es n s))
