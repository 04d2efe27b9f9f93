use Rattle.std.proofs.Common.{◌≡◌, [], sym, subst}
use Rattle.cb_term.specs.Table.{sizes_of}
use Rattle.cb_term.specs.Holds.{Holds}
use Rattle.cb_spec.specs.ProcessTree.{Choice, If}
use Rattle.cb_spec.specs.Stores.{look_of}
use Rattle.cb_code.specs.declared.code.Node.TheVariants as node
use Rattle.cb_code.specs.Nodes.{part}
use Rattle.cb_settling.specs.Resolving.{Adds}
use Rattle.cb_settling.proofs.ResolveLemmas.{on_ok, node_part, holds_then, fails_then, adds_both, adds_then, adds_else}
use Rattle.cb_settling.proofs.settle.+offers.Goals as goal

pub returns-in_ok-offers-in-Choice : goal.returns-in_ok-offers-in-Choice
returns-in_ok-offers-in-Choice t c =
    let ps = c.args.code.now in
    let p = part ps c.in-Choice.left in
    let q = part ps c.in-Choice.right in
    let is : part ps c.args.place ≡ Choice p q = node_part ps c.args.place c.node.result.now (node.Choice c.in-Choice.left c.in-Choice.right) c.node.ensures.tree c.in-Choice.is in
    on_ok c.offers-in-Choice.result c.offers-in-Choice.ensures (λ b. subst (λ r. Adds (sizes_of c.args.system.now.sets) ps r (look_of c.args.env.now) c.args.prefixes.now c.offers-in-Choice.new.prefixes) (sym is)
    (adds_both (sizes_of c.args.system.now.sets) ps (look_of c.args.env.now) p q c.args.prefixes.now c.offers.new.prefixes c.offers-in-Choice.new.prefixes c.in_ok-offers-in-Choice.ensures b))

pub returns-then-branch : goal.returns-then-branch
returns-then-branch t c =
    let ps = c.args.code.now in
    let p = part ps c.in-If.then in
    let q = part ps c.in-If.other in
    let is : part ps c.args.place ≡ If c.in-If.test p q = node_part ps c.args.place c.node.result.now (node.If c.in-If.test c.in-If.then c.in-If.other) c.node.ensures.tree c.in-If.is in
    on_ok c.offers-then-branch.result c.offers-then-branch.ensures (λ a. subst (λ r. Adds (sizes_of c.args.system.now.sets) ps r (look_of c.args.env.now) c.args.prefixes.now c.offers-then-branch.new.prefixes) (sym is)
    (adds_then (sizes_of c.args.system.now.sets) ps (look_of c.args.env.now) c.in-If.test p q c.args.prefixes.now c.offers-then-branch.new.prefixes
    (holds_then c.in_ok-truth_of-in-If.field-0 (Holds (sizes_of c.args.system.now.sets) (look_of c.args.env.now) c.in-If.test []) c.in_ok-truth_of-in-If.ensures c.if-branch.true) a))

pub returns-else-branch : goal.returns-else-branch
returns-else-branch t c =
    let ps = c.args.code.now in
    let p = part ps c.in-If.then in
    let q = part ps c.in-If.other in
    let is : part ps c.args.place ≡ If c.in-If.test p q = node_part ps c.args.place c.node.result.now (node.If c.in-If.test c.in-If.then c.in-If.other) c.node.ensures.tree c.in-If.is in
    on_ok c.offers-else-branch.result c.offers-else-branch.ensures (λ a. subst (λ r. Adds (sizes_of c.args.system.now.sets) ps r (look_of c.args.env.now) c.args.prefixes.now c.offers-else-branch.new.prefixes) (sym is)
    (adds_else (sizes_of c.args.system.now.sets) ps (look_of c.args.env.now) c.in-If.test p q c.args.prefixes.now c.offers-else-branch.new.prefixes
    (fails_then c.in_ok-truth_of-in-If.field-0 (Holds (sizes_of c.args.system.now.sets) (look_of c.args.env.now) c.in-If.test []) c.in_ok-truth_of-in-If.ensures c.if-branch.false) a))
