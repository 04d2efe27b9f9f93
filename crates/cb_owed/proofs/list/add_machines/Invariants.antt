use Rattle.std.proofs.Common.{◌≡◌, ◌++◌, true, map, flat_map, drop}
use Rattle.cb_obligations.specs.Owed.{owed_of, machine_owes}
use Rattle.cb_wp.specs.Limits.{count, machine_steps}
use Rattle.cb_owed.specs.Limits.{machines_within}
use Rattle.cb_owed.proofs.list.add_machines.Given as goal

abbrev pub invariant-loop-machine : goal.invariant-loop-machine
invariant-loop-machine l = record {
  within : machines_within (drop l.machine-index l.machines) ≡ true;
  counted : count l.used.obligations l.used.nodes (flat_map machine_steps (drop l.machine-index l.machines))
      ≡ count l.initial.used.obligations l.initial.used.nodes (flat_map machine_steps l.machines);
  list : map owed_of l.into.items ++ flat_map machine_owes (drop l.machine-index l.machines)
      ≡ map owed_of l.initial.into.items ++ flat_map machine_owes l.machines;
}
