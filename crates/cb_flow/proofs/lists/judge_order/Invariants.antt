use Rattle.std.proofs.Common.{◌≡◌, [], drop}
use Rattle.cb_forms.specs.Faults.{least, first}
use Rattle.cb_text_laws.specs.TextNames.{order_from}
use Rattle.cb_text_laws.specs.UseFaults.{order_fault}
use Rattle.cb_flow.proofs.lists.judge_order.Given as goal

abbrev pub invariant-loop-name : goal.invariant-loop-name
invariant-loop-name l =
    (least l.fault (first (order_fault l.names l.seen (drop l.name-index l.list))) ≡ first (order_fault l.names [] l.list))
    × (order_from l.names l.order (drop l.name-index l.list) ≡ order_from l.names l.fn.order l.list)
