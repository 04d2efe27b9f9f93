use Rattle.std.proofs.Common.{get_or}
use Rattle.cb_system.proofs.BranchLemmas.{ready_apart, node_apart, ready_is, prefix_is, code_within, node_prefix, branch_found}
use Rattle.cb_system.proofs.branch.branch_at.Goals as goal

pub node-requires : goal.node-requires
node-requires c =
    let at = prefix_is c.args.code.now c.args.places.now c.args.controller c.args.branch c.requires.prefixes c.requires.has c.index-places-controller.result c.in-Ready.prefixes c.as_slice.result.now c.in-Ready.env 0
    c.index-places-controller.is c.in-Ready.is c.as_slice.ensures in
    code_within c.args.code.now c.args.places.now c.args.controller c.args.branch c.requires.prefixes c.requires.has _ at

pub unreachable-requires : goal.unreachable-requires
unreachable-requires c =
    let at = prefix_is c.args.code.now c.args.places.now c.args.controller c.args.branch c.requires.prefixes c.requires.has c.index-places-controller.result c.in-Ready.prefixes c.as_slice.result.now c.in-Ready.env 0
    c.index-places-controller.is c.in-Ready.is c.as_slice.ensures in
    node_apart c.args.code.now c.node.result.now (node_prefix c.args.code.now c.args.places.now c.args.controller c.args.branch c.requires.prefixes c.requires.has _ c.node.result.now at c.node.ensures.tree) c.in_default.not-Prefix

pub unreachable-requires-in-At : goal.unreachable-requires-in-At
unreachable-requires-in-At c =
    let has = c.requires.has in
    ready_apart c.index-places-controller.result has.prefixes has.env (ready_is c.args.code.now c.args.places.now c.args.controller c.args.branch c.requires.prefixes has c.index-places-controller.result c.index-places-controller.is) c.in-At.is

pub returns : goal.returns
returns c =
    let at = prefix_is c.args.code.now c.args.places.now c.args.controller c.args.branch c.requires.prefixes c.requires.has c.index-places-controller.result c.in-Ready.prefixes c.as_slice.result.now c.in-Ready.env 0
    c.index-places-controller.is c.in-Ready.is c.as_slice.ensures in
    branch_found c.args.code.now c.args.places.now c.args.controller c.args.branch c.requires.prefixes c.requires.has c.index-places-controller.result c.in-Ready.prefixes c.in-Ready.env
    (get_or c.as_slice.result.now c.args.branch 0) c.node.result.now c.in-Prefix.event c.in-Prefix.then c.index-places-controller.is c.in-Ready.is at c.node.ensures.tree c.node.ensures.below c.in-Prefix.is
