use Rattle.cb_turn_queue.specs.Words.{facts}
use Rattle.cb_turn_samples.proofs.Given.{given}
use Rattle.cb_turn_samples.proofs.on_a_queue.add.Goals as goal

pub returns-clause-given : goal.returns-clause-given
returns-clause-given g c = given c.add-added.result (facts c.args.pass.now) _ _ _ _ _ c.take-numbers.ensures.facts c.add-added.ensures.ok c.give.ensures.facts
