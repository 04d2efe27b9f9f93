use Rattle.std.proofs.Common.{◌<◌, length, arith}
use Rattle.std.proofs.lemmas.Grind.{common_steps}
use Rattle.cb_code.proofs.CodeLemmas.{within, node_is, node_below}
use Rattle.cb_code.proofs.code.Code.node.Goals as goal

pub index-requires : goal.index-requires
index-requires c =
    let low : c.args.place < length c.self.inside.nodes.items = within _ _ c.self.view_is c.self.invariant _ c.requires in
    grind (arith, common_steps)

pub returns-clause-tree : goal.returns-clause-tree
returns-clause-tree c = node_is _ _ c.self.view_is c.self.invariant _ _ c.requires c.index.ensures

pub returns-clause-below : goal.returns-clause-below
returns-clause-below c = node_below _ _ c.self.view_is c.self.invariant _ _ c.requires c.index.ensures
