use Rattle.std.proofs.Common.{List, ap, arith, rules}
use Rattle.std.proofs.lemmas.Grind.{common_steps}
use Rattle.cb_term.specs.Tree.{FormulaTree}
use Rattle.cb_obligations.specs.Pieces.{conjuncts, with_opened}
use Rattle.cb_wp.proofs.CountLemmas.{carried_on, implies_passed, implies_on}
use Rattle.cb_wp.proofs.pieces.+pieces.Goals as goal

pub add_implied-returns-then-carried-gt20000-clause-fault : goal.add_implied-returns-then-carried-gt20000-clause-fault
add_implied-returns-then-carried-gt20000-clause-fault t c =
    let cs : List FormulaTree = conjuncts (with_opened c.as_slice.result.now c.args.left.now) in
    implies_passed c.args.opened.now.items c.args.number c.args.names.now.items c.args.hypotheses.now.items cs c.add_conjuncts.new.into.items
    c.args.left.now c.args.inner.now c.args.carried c.in_ok-carried.carried
    c.args.used.now.obligations c.args.used.now.nodes
    (ap (λ xs. conjuncts (with_opened xs c.args.left.now)) c.as_slice.ensures.value)
    c.requires c.in_ok-carried.ensures.nodes c.in_ok-carried.ensures.list c.if-carried-gt20000.true

pub add_implied-add_pieces-requires : goal.add_implied-add_pieces-requires
add_implied-add_pieces-requires t c =
    let cs : List FormulaTree = conjuncts (with_opened c.as_slice.result.now c.args.left.now) in (
      search rules,
      carried_on c.args.hypotheses.now.items cs c.add_conjuncts.new.into.items c.args.carried c.in_ok-carried.carried
          c.requires c.in_ok-carried.ensures.nodes c.in_ok-carried.ensures.list,
    )

pub add_implied-returns-in_err-add_pieces-clause-fault : goal.add_implied-returns-in_err-add_pieces-clause-fault
add_implied-returns-in_err-add_pieces-clause-fault t c =
    let cs : List FormulaTree = conjuncts (with_opened c.as_slice.result.now c.args.left.now) in
    let e = implies_on c.args.opened.now.items c.args.number c.args.names.now.items c.args.hypotheses.now.items cs c.add_conjuncts.new.into.items
    c.args.left.now c.args.inner.now c.args.carried c.in_ok-carried.carried
    c.args.used.now.obligations c.args.used.now.nodes
    (ap (λ xs. conjuncts (with_opened xs c.args.left.now)) c.as_slice.ensures.value)
    c.requires c.in_ok-carried.ensures.nodes c.in_ok-carried.ensures.list c.if-carried-gt20000.false in
    grind (arith, common_steps, e)

pub add_implied-returns-clause-counted : goal.add_implied-returns-clause-counted
add_implied-returns-clause-counted t c =
    let cs : List FormulaTree = conjuncts (with_opened c.as_slice.result.now c.args.left.now) in
    let e = implies_on c.args.opened.now.items c.args.number c.args.names.now.items c.args.hypotheses.now.items cs c.add_conjuncts.new.into.items
    c.args.left.now c.args.inner.now c.args.carried c.in_ok-carried.carried
    c.args.used.now.obligations c.args.used.now.nodes
    (ap (λ xs. conjuncts (with_opened xs c.args.left.now)) c.as_slice.ensures.value)
    c.requires c.in_ok-carried.ensures.nodes c.in_ok-carried.ensures.list c.if-carried-gt20000.false in
    grind (arith, common_steps, e)
