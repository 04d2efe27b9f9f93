use Rattle.std.proofs.Common.{◌≡◌, ◌++◌, map, drop}
use Rattle.cb_obligations.specs.Owed.{owed_of}
use Rattle.cb_wp.specs.Limits.{count}
use Rattle.cb_owed.specs.Lists.{controllers_owe}
use Rattle.cb_owed.specs.Parts.{controllers_steps}
use Rattle.cb_owed.proofs.list.add_controllers.Given as goal

abbrev pub invariant-loop-controller : goal.invariant-loop-controller
invariant-loop-controller l = record {
  counted : count l.used.obligations l.used.nodes (controllers_steps l.system (drop l.controller-index l.controller-items))
      ≡ count l.initial.used.obligations l.initial.used.nodes (controllers_steps l.system l.controller-items);
  list : map owed_of l.into.items ++ controllers_owe l.system (drop l.controller-index l.controller-items)
      ≡ map owed_of l.initial.into.items ++ controllers_owe l.system l.controller-items;
}
