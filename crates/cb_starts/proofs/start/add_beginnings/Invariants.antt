use Rattle.std.proofs.Common.{◌≡◌, ◌++◌, drop, map}
use Rattle.cb_seq.specs.Validity.{claim_of}
use Rattle.cb_wp.specs.Limits.{count}
use Rattle.cb_wp.specs.Parts.{branch_of}
use Rattle.cb_starts.specs.Starts.{beginnings_steps, beginnings_ways}
use Rattle.cb_starts.proofs.start.add_beginnings.Given as goal

abbrev pub invariant-loop-branch : goal.invariant-loop-branch
invariant-loop-branch l = record {
  counted : count l.made.used.obligations l.made.used.nodes (beginnings_steps l.system l.controller (map branch_of (drop l.branch-index l.branches)))
      ≡ count l.initial.made.used.obligations l.initial.made.used.nodes (beginnings_steps l.system l.controller (map branch_of l.branches));
  list : map claim_of l.made.sequents.items ++ beginnings_ways l.system l.controller (map branch_of (drop l.branch-index l.branches))
      ≡ map claim_of l.initial.made.sequents.items ++ beginnings_ways l.system l.controller (map branch_of l.branches);
}
