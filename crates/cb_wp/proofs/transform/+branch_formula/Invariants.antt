use Rattle.std.proofs.Common.{◌+◌, ◌*◌, length}
use Rattle.cb_wp.proofs.transform.+branch_formula.Given as goal

abbrev pub decreases-branch_formula : goal.decreases-branch_formula
decreases-branch_formula l = 2 * length l.items.now

abbrev pub decreases-bound_formula : goal.decreases-bound_formula
decreases-bound_formula l = 2 * length l.rest.now + 1

abbrev pub decreases-guarded_formula : goal.decreases-guarded_formula
decreases-guarded_formula l = 2 * length l.rest.now + 1
