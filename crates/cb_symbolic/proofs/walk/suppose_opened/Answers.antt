use Rattle.std.proofs.Common.{List, arith}
use Rattle.std.proofs.lemmas.Grind.{common_steps}
use Rattle.cb_term.specs.Tree.{FormulaTree}
use Rattle.cb_wp.proofs.CountLemmas.{carried_on}
use Rattle.cb_symbolic.specs.Cuts.{conjuncts_read}
use Rattle.cb_symbolic.specs.Stores.{meaning_of}
use Rattle.cb_symbolic.proofs.LimitLemmas.{passes_with, stops_with, over_with}
use Rattle.cb_symbolic.proofs.walk.suppose_opened.Goals as goal

pub returns-in_err-nodes-clause-stops : goal.returns-in_err-nodes-clause-stops
returns-in_err-nodes-clause-stops c =
    let cs : List FormulaTree = conjuncts_read (meaning_of c.args.walk.now.store) c.args.opened.now c.args.formula.now in
    let h = stops_with c.args.walk.now.hypotheses cs c.args.reached.nodes c.in_err-nodes.field-0.0 c.requires.reached c.in_err-nodes.ensures.fault in
    grind (arith, common_steps, h)

pub returns-then-nodes-gt20000-clause-stops : goal.returns-then-nodes-gt20000-clause-stops
returns-then-nodes-gt20000-clause-stops c =
    let cs : List FormulaTree = conjuncts_read (meaning_of c.args.walk.now.store) c.args.opened.now c.args.formula.now in
    over_with c.args.walk.now.hypotheses cs c.args.reached.nodes c.in_ok-nodes.nodes c.requires.reached c.in_ok-nodes.ensures.nodes c.if-nodes-gt20000.true

pub returns-clause-reached : goal.returns-clause-reached
returns-clause-reached c =
    let cs : List FormulaTree = conjuncts_read (meaning_of c.args.walk.now.store) c.args.opened.now c.args.formula.now in
    carried_on c.args.walk.now.hypotheses cs c.add_conjuncts.new.into c.args.reached.nodes c.in_ok-nodes.nodes c.requires.reached c.in_ok-nodes.ensures.nodes c.in_ok-nodes.ensures.list

pub returns-clause-passes : goal.returns-clause-passes
returns-clause-passes c =
    let cs : List FormulaTree = conjuncts_read (meaning_of c.args.walk.now.store) c.args.opened.now c.args.formula.now in
    passes_with c.args.walk.now.hypotheses cs c.args.reached.nodes c.in_ok-nodes.nodes c.requires.reached c.in_ok-nodes.ensures.nodes c.if-nodes-gt20000.false
