use Rattle.std.proofs.Common.{◌≡◌, length, arith}
use Rattle.std.proofs.lemmas.Grind.{common_steps}
use Rattle.cb_code.proofs.CodeLemmas.{pushed_falls, pushed_is, pushed_at}
use Rattle.cb_code.proofs.code.Code.push.Goals as goal

pub invariant_of-self-2 : goal.invariant_of-self-2
invariant_of-self-2 c = pushed_falls _ _ _ _ c.self.view_is c.self.invariant c.requires c.in_ok-push.ensures.items

pub returns-clause-place : goal.returns-clause-place
returns-clause-place c =
    let last : c.len-place.result ≡ length c.self.inside.nodes.items = grind (arith, common_steps) in
    pushed_at _ _ _ _ c.self.view_is c.self.invariant c.requires c.in_ok-push.ensures.items c.len-place.result last

pub returns-clause-added : goal.returns-clause-added
returns-clause-added c = pushed_is _ _ _ _ c.self.view_is c.self.invariant c.requires c.in_ok-push.ensures.items
