-- `tracereader::message_at` meets its contract. Assumes nothing.
use Rattle.std.proofs.Common.{arith, rules, ◌∙◌}
use Rattle.traces.proofs.Numbers.{all_bytes}
use Rattle.tracereader.proofs.Judging.{judged_once, message_refused}
use Rattle.tracereader.proofs.message_at.Goals as goal

pub returns-in_err-judge : goal.returns-in_err-judge
returns-in_err-judge c = search (rules, message_refused)

pub returns : goal.returns
returns c = let o = all_bytes c.args.f.now (λ k. omega (arith, c.type_inv.f k)) in
    c.look.ensures ∙ judged_once c.args.f.now o _ (search rules) c.args.n
