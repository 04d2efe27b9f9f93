use Rattle.std.proofs.Common.{◌≡◌, [], drop}
use Rattle.cb_types.specs.Declares.{sees_from}
use Rattle.cb_texts.proofs.views.own_machines.Given as goal

abbrev pub invariant-loop-name : goal.invariant-loop-name
invariant-loop-name l = sees_from l.names l.numbers (drop l.name-index l.controller.machines) ≡ sees_from l.names [] l.controller.machines
