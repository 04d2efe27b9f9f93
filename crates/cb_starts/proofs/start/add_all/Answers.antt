use Rattle.std.proofs.Common.{map, IfErr, ap, subst, ◌∙◌}
use Rattle.cb_wp.specs.Limits.{Faulted}
use Rattle.cb_wp.specs.Parts.{branch_of}
use Rattle.cb_starts.specs.Starts.{beginnings_steps}
use Rattle.cb_starts.proofs.start.add_all.Goals as goal

pub returns-clause-fault : goal.returns-clause-fault
returns-clause-fault c =
    subst (λ bs. IfErr c.add_beginnings.result (λ e. Faulted e c.args.made.now.used (beginnings_steps c.args.system.now c.args.controller.now bs)))
    (ap (map branch_of) c.as_slice.ensures ∙ c.in_ok-branches.ensures) c.add_beginnings.ensures.fault
