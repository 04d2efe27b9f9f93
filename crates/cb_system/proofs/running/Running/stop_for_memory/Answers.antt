use Rattle.std.proofs.Common.{ap, ◌∙◌}
use Rattle.cb_system.specs.Views.{RunView, last_end}
use Rattle.cb_system.proofs.StepLemmas.{stops}
use Rattle.cb_system.proofs.running.Running.stop_for_memory.Goals as goal

pub invariant_of-self : goal.invariant_of-self
invariant_of-self c = (stops _ _ _ _ _ _ _ _ _ _ _ _ _ _ c.self.invariant.0 _ _ _ (ap (λ (r : RunView). last_end r.journal) c.self.view_is ∙ c.requires) c.push_reserved.ensures.items, c.self.invariant.1)
