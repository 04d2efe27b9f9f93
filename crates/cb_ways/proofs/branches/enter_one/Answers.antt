use Rattle.std.proofs.Common.{◌∷◌, List, IfErr, sym, subst}
use Rattle.std.proofs.lemmas.Result.{IfErr-weaker}
use Rattle.cb_obligations.specs.Branches as spec
use Rattle.cb_wp.specs.declared.branches.Item.{Item}
use Rattle.cb_wp.specs.declared.limits.MakeFault.{MakeFault}
use Rattle.cb_wp.specs.declared.limits.Used.{Used}
use Rattle.cb_wp.specs.Limits.{Faulted}
use Rattle.cb_wp.specs.Parts.{item_of}
use Rattle.cb_conditions.specs.Steps.{inside_steps}
use Rattle.cb_conditions.specs.Ways.{Way, supposing}
use Rattle.cb_symbolic.specs.Walks.{way_of}
use Rattle.cb_ways.proofs.branches.enter_one.Goals as goal

pub returns-in-Guard-clause-stops : goal.returns-in-Guard-clause-stops
returns-in-Guard-clause-stops c =
    let w : Way = way_of c.args.reached c.args.walk.now in
    let stops : Item → MakeFault → Type 0 = λ i e. (u : Used) (rest : List spec.Item) → Faulted e u (inside_steps w (item_of i ∷ rest)) in
    subst (λ (i : Item). IfErr c.suppose.result (stops i)) (sym c.in-Guard.is)
    (IfErr-weaker c.suppose.result _ _ (λ e h u rest. h u (inside_steps (supposing w c.in-Guard.guard) rest)) c.suppose.ensures.stops)
