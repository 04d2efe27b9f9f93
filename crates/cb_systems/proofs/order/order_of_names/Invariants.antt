use Rattle.std.proofs.Common.{◌≡◌, [], drop}
use Rattle.cb_text_laws.specs.TextNames.{order_from}
use Rattle.cb_systems.proofs.order.order_of_names.Given as goal

abbrev pub invariant-loop-name : goal.invariant-loop-name
invariant-loop-name l = order_from l.names l.order (drop l.name-index l.list) ≡ order_from l.names [] l.list
