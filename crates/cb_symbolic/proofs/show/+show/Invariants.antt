use Rattle.std.proofs.Common.{◌+◌, ◌*◌}
use Rattle.cb_term.specs.Size.{formula_nodes}
use Rattle.cb_symbolic.proofs.show.+show.Given as goal

abbrev pub decreases-show_inside : goal.decreases-show_inside
decreases-show_inside l = 2 * formula_nodes l.formula.now

abbrev pub decreases-show_both : goal.decreases-show_both
decreases-show_both l = 2 * (formula_nodes l.left.now + formula_nodes l.right.now) + 1

abbrev pub decreases-show_implied : goal.decreases-show_implied
decreases-show_implied l = 2 * formula_nodes l.inner.now + 1

abbrev pub decreases-show_every : goal.decreases-show_every
decreases-show_every l = 2 * formula_nodes l.body.now + 1
