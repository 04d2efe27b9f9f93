use Rattle.std.proofs.Common.{◌≡◌, ◌++◌, map, drop}
use Rattle.cb_obligations.specs.Owed.{owed_of}
use Rattle.cb_wp.specs.Limits.{count}
use Rattle.cb_conditions.specs.Conditions.{definitions_owe}
use Rattle.cb_owed.specs.Limits.{definitions_steps}
use Rattle.cb_owed.proofs.list.add_definitions.Given as goal

abbrev pub invariant-loop-definition : goal.invariant-loop-definition
invariant-loop-definition l = record {
  counted : count l.used.obligations l.used.nodes (definitions_steps l.system l.controller (drop l.definition-index l.definition-items))
      ≡ count l.initial.used.obligations l.initial.used.nodes (definitions_steps l.system l.controller l.definition-items);
  list : map owed_of l.into.items ++ definitions_owe l.system l.controller (drop l.definition-index l.definition-items)
      ≡ map owed_of l.initial.into.items ++ definitions_owe l.system l.controller l.definition-items;
}
