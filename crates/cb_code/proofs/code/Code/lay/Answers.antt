use Rattle.std.proofs.Common.{◌≡◌, length, arith}
use Rattle.std.proofs.lemmas.Grind.{common_steps}
use Rattle.cb_code.proofs.CodeLemmas.{cut_falls, cut_trees}
use Rattle.cb_code.proofs.code.Code.lay.Goals as goal

pub invariant_of-self : goal.invariant_of-self
invariant_of-self c =
    let long : c.len-before.result ≡ length c.self.inside.nodes.items = grind (arith, common_steps) in
    cut_falls _ _ _ _ _ _ c.self.view_is c.self-2.view_is c.self-2.invariant c.in-Err.ensures.more long c.truncate.ensures.items

pub returns-in-Err-clause-err : goal.returns-in-Err-clause-err
returns-in-Err-clause-err c =
    let long : c.len-before.result ≡ length c.self.inside.nodes.items = grind (arith, common_steps) in
    cut_trees _ _ _ _ _ _ c.self.view_is c.self-2.view_is c.self-2.invariant c.in-Err.ensures.more long c.truncate.ensures.items
