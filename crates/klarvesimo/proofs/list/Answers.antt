-- `klarvesimo::list` loads the channel and lists what it holds. Assumes nothing.
use mathlib.Core.Path.{sym, ◌∙◌}
use Rattle.calls.proofs.Leaving.{queue_short}
use Rattle.klarvesimo.proofs.Holding.{held_unsound, held_short, held_listed}
use Rattle.klarvesimo.proofs.list.Goals as goal

pub returns-then-not-is_shaped : goal.returns-then-not-is_shaped
returns-then-not-is_shaped c =
    let a = c.args in
    let is = c.load-l.ensures in
    held_unsound a.channel.now a.ids.now _ is (is.fit ∙ sym (c.is_shaped.ensures is.editions) ∙ c.if-not-is_shaped.true)

pub returns-then-ids-held : goal.returns-then-ids-held
returns-then-ids-held c =
    let a = c.args in
    let is = c.load-l.ensures in
    let sane = is.fit ∙ sym (c.is_shaped.ensures is.editions) ∙ c.if-not-is_shaped.false in
    held_short a.channel.now a.ids.now _ is sane _ (c.list_held-held.ensures.lists (queue_short _ sane)) c.if-ids-held.true

pub returns : goal.returns
returns c =
    let a = c.args in
    let is = c.load-l.ensures in
    let sane = is.fit ∙ sym (c.is_shaped.ensures is.editions) ∙ c.if-not-is_shaped.false in
    (λ i. record { number = 0; count = c.list_held-held.result.count; ids = c.put_ids.ensures i })
    ∙ held_listed a.channel.now a.ids.now _ is sane _ (c.list_held-held.ensures.lists (queue_short _ sane)) c.if-ids-held.false
