use Rattle.std.proofs.Common.{ap, arith}
use Rattle.cb_term.specs.Tree.{trees_of}
use Rattle.cb_term.proofs.Steps.{drop_step}
use Rattle.cb_conditions.specs.Steps.{terms_nodes_with}
use Rattle.cb_symbolic.specs.Stores.{nodes_of}
use Rattle.cb_symbolic.proofs.weighing.+weighing.Goals as goal

pub term_nodes-loop-term-preserved : goal.term_nodes-loop-term-preserved
term_nodes-loop-term-preserved t c =
    let e = drop_step _ _ c.term-item.result c.loop-term-test.true c.term-item.is in
    omega (arith, ap (λ ts. terms_nodes_with (nodes_of c.args.entries.now) (trees_of ts)) e)
