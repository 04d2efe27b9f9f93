use Rattle.std.proofs.Common.{◌≡◌, [], drop}
use Rattle.cb_types.specs.Declares.{sees_from}
use Rattle.cb_systems.proofs.controllers.machine_numbers.Given as goal

abbrev pub invariant-loop-name : goal.invariant-loop-name
invariant-loop-name l =
    (sees_from l.names l.numbers (drop l.name-index l.list) ≡ sees_from l.names [] l.list)
    × (l.seen ≡ l.numbers)
