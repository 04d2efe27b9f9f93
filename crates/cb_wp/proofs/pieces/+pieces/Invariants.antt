use Rattle.std.proofs.Common.{◌+◌, ◌*◌}
use Rattle.cb_term.specs.Size.{formula_nodes}
use Rattle.cb_wp.proofs.pieces.+pieces.Given as goal

abbrev pub decreases-add_pieces : goal.decreases-add_pieces
decreases-add_pieces l = 2 * formula_nodes l.formula.now

abbrev pub decreases-add_both : goal.decreases-add_both
decreases-add_both l = 2 * (formula_nodes l.left.now + formula_nodes l.right.now) + 1

abbrev pub decreases-add_implied : goal.decreases-add_implied
decreases-add_implied l = 2 * formula_nodes l.inner.now + 1

abbrev pub decreases-add_every : goal.decreases-add_every
decreases-add_every l = 2 * formula_nodes l.body.now + 1
