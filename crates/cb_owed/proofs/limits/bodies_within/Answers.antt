use Rattle.cb_owed.proofs.Listed.{all_calls_within}
use Rattle.cb_owed.proofs.limits.bodies_within.Goals as goal

pub body_within-requires-clause-within : goal.body_within-requires-clause-within
body_within-requires-clause-within c = all_calls_within c.args.system.now c.definition-item.result.body c.requires.within
