use Rattle.std.proofs.Common.{◌≡◌, ◌∙◌, Some, None, ap}
use Rattle.cb_lin.specs.Steps.{linear_of}
use Rattle.cb_lin.specs.Rows.{sum_of}
use Rattle.cb_lin.proofs.ExactForms.{linear_exact, linear_keeps}
use Rattle.cb_lin.proofs.linear.linear.Goals as goal

pub row_of-requires-clause-apart : goal.row_of-requires-clause-apart
row_of-requires-clause-apart c =
    let e : Some (sum_of c.in-Some.sum) ≡ linear_of c.args.term.now = rw c.in-Some.is at c.in_ok-sum.ensures in
    (linear_keeps c.args.term.now (sum_of c.in-Some.sum) e).0

pub row_of-requires-clause-nonzero : goal.row_of-requires-clause-nonzero
row_of-requires-clause-nonzero c =
    let e : Some (sum_of c.in-Some.sum) ≡ linear_of c.args.term.now = rw c.in-Some.is at c.in_ok-sum.ensures in
    (linear_keeps c.args.term.now (sum_of c.in-Some.sum) e).1

pub row_of-requires-clause-small : goal.row_of-requires-clause-small
row_of-requires-clause-small c =
    let e : Some (sum_of c.in-Some.sum) ≡ linear_of c.args.term.now = rw c.in-Some.is at c.in_ok-sum.ensures in
    (linear_keeps c.args.term.now (sum_of c.in-Some.sum) e).2

pub returns-in-Some : goal.returns-in-Some
returns-in-Some c =
    let e : Some (sum_of c.in-Some.sum) ≡ linear_of c.args.term.now = rw c.in-Some.is at c.in_ok-sum.ensures in
    ap Some c.row_of.ensures ∙ e ∙ linear_exact c.args.term.now

pub returns-in-None : goal.returns-in-None
returns-in-None c =
    let e : None ≡ linear_of c.args.term.now = rw c.in-None.is at c.in_ok-sum.ensures in
    e ∙ linear_exact c.args.term.now
