use Rattle.std.proofs.Common.{get_or, sym, subst}
use Rattle.std.proofs.lemmas.Option.{slice_get-get_or}
use Rattle.cb_code.specs.Nodes.{tree_of}
use Rattle.cb_code.proofs.CodeLemmas.{part_is}
use Rattle.cb_settling.specs.Branches.{IsPrefix, ArePrefixes}
use Rattle.cb_system.proofs.BranchLemmas.{prefix_at, prefix_within, node_apart}
use Rattle.cb_system.proofs.row.sides_at.Goals as goal

pub node-requires : goal.node-requires
node-requires c =
    let items = c.as_slice-place-items.result.now in
    let all = subst (ArePrefixes c.args.code.now) (sym c.as_slice-place-items.ensures) c.requires in
    let k = get_or items c.loop-place.place-index 0 in
    prefix_within c.args.code.now k (prefix_at c.args.code.now items c.loop-place.place-index k all (slice_get-get_or items c.loop-place.place-index 0 c.loop-place-test.true))

pub unreachable-requires : goal.unreachable-requires
unreachable-requires c =
    let items = c.as_slice-place-items.result.now in
    let all = subst (ArePrefixes c.args.code.now) (sym c.as_slice-place-items.ensures) c.requires in
    let k = get_or items c.loop-place.place-index 0 in
    let prefix = prefix_at c.args.code.now items c.loop-place.place-index k all (slice_get-get_or items c.loop-place.place-index 0 c.loop-place-test.true) in
    node_apart c.args.code.now c.node.result.now (subst IsPrefix (part_is c.args.code.now k (tree_of c.args.code.now c.node.result.now) c.node.ensures.tree) prefix) c.in_default.not-Prefix
