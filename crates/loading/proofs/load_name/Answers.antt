-- `loading::load_name` meets its contract. Assumes nothing.
use Prim.Native.Nat.{◌≤◌}
use mathlib.Core.Path.{◌≡◌, refl, ◌∙◌}
use native.Mathlib.Omega.{arith}
use lib.ListN.{length-set}
use Rattle.loading.proofs.Loading.{gathered_none, gathered_more, size_most, name_part}
use Rattle.loading.proofs.load_name.Goals as goal

pub loop-i-init : goal.loop-i-init
loop-i-init c = record { long = refl; gathered = gathered_none c.args.ws.now _ (omega arith) }

pub loop-i-preserved : goal.loop-i-preserved
loop-i-preserved c =
    let ws = c.args.ws.now in
    let l = c.loop-i in
    let inv = l.invariant in
    let size = c.count_where-size in
    let few : size.result ≤ 44 = rw size.ensures (size_most ws _ refl) in record {
      long = length-set l.bytes l.i _ ∙ inv.long;
      gathered = gathered_more ws l.bytes l.bits l.i _ (omega arith) (λ t. c.byte_at.ensures t) inv.gathered;
    }

pub returns : goal.returns
returns c =
    let ws = c.args.ws.now in
    let l = c.loop-i in
    let size = c.count_where-size in
    let end : l.i ≡ size.result = omega arith in
    name_part ws l.bytes c.count_where.result l.invariant.long _ refl size.ensures (rw end at l.invariant.gathered) refl c.count_where.ensures
