use Rattle.std.proofs.Common.{◌≡◌, ◌≢◌, Some}
use Rattle.cb_spec.specs.declared.state.End.TheVariants.{Memory}
use Rattle.cb_system.specs.Views.{last_end}
use Rattle.cb_alone.proofs.RoundLemmas.{IsFurther}
use Rattle.cb_alone.proofs.alone.step_each.Given as goal

abbrev pub invariant-loop-controller : goal.invariant-loop-controller
invariant-loop-controller l = record {
  system : l.running.system ≡ l.fn.running.system;
  limit : l.running.limit ≡ l.fn.running.limit;
  memory : last_end l.running.journal ≢ Some Memory;
  further : IsFurther l.fn.running l.running l.controller;
}
