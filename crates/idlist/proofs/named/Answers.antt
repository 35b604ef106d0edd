-- `idlist::named` meets its contract.
-- Assumes nothing.
use mathlib.Core.Path.{◌≡◌, ap, ◌∙◌}
use mathlib.Core.List.{[], ◌∷◌}
use mathlib.Core.Bool.{true}
use native.Mathlib.Omega.{arith}
use Rattle.std.proofs.lemmas.Grind.{common_steps}
use Rattle.idlist.specs.Named.{in_range}
use Rattle.idlist.proofs.Pass.{found, started, room, no_comma, wrong_id, last_id, next_id}
use Rattle.idlist.proofs.named.Goals as goal
use Rattle.idlist.proofs.named.Goals.{After-places}

pub loop-d-init : goal.loop-d-init
loop-d-init c = let a = c.args in (started a.ids.now a.v.now, omega arith)

pub returns-then-d-eq0 : goal.returns-then-d-eq0
returns-then-d-eq0 c = wrong_id c.loop-d.invariant.0 _ c.digits_at-d.ensures (grind (arith, common_steps))

pub returns-in_err-ok : goal.returns-in_err-ok
returns-in_err-ok c =
    c.from_residual.ensures
    ∙ wrong_id c.loop-d.invariant.0 _ c.digits_at-d.ensures (grind (arith, common_steps))

pub overflow_add-i : goal.overflow_add-i
overflow_add-i c = omega (arith, room c.loop-d.invariant.0 _ c.digits_at-d.ensures c.loop-d.invariant.1)

-- what was read is an id
is_id : (c : After-places) → in_range c.digits_at-d.result.value c.digits_at-d.result.count ≡ true
is_id c = grind (arith, common_steps)

found_there : (c : After-places) → c.places.result ≡ found c.args.ids.now (c.digits_at-d.result.value ∷ [])
found_there c = c.places.ensures ∙ ap (λ id. found c.args.ids.now (id ∷ [])) (grind (arith, common_steps))

pub returns-then-v-i : goal.returns-then-v-i
returns-then-v-i c =
    let at = (goal.at.returns-then-v-i c).After-places in
    last_id c.loop-d.invariant.0 _ c.digits_at-d.ensures (is_id at) (found_there at) c.if-v-i.true

pub returns-then-v-i-ne44 : goal.returns-then-v-i-ne44
returns-then-v-i-ne44 c = no_comma c.loop-d.invariant.0 _ c.digits_at-d.ensures (omega arith) c.if-v-i-ne44.true

pub loop-d-preserved : goal.loop-d-preserved
loop-d-preserved c =
    let at = (goal.at.loop-d-preserved c).After-places in (
      next_id c.loop-d.invariant.0 _ c.digits_at-d.ensures (is_id at) (found_there at) (omega arith)
          c.if-v-i-ne44.false,
      omega arith,
    )
