use Rattle.std.proofs.Common.{◌≡◌, [], drop}
use Rattle.cb_forms.specs.Faults.{least, first}
use Rattle.cb_types.specs.Declares.{sees_from}
use Rattle.cb_text_laws.specs.UseFaults.{machine_list_fault}
use Rattle.cb_flow.proofs.lists.judge_machines.Given as goal

abbrev pub invariant-loop-name : goal.invariant-loop-name
invariant-loop-name l =
    (least l.fault (first (machine_list_fault l.names l.seen l.owned (drop l.name-index l.machines))) ≡ first (machine_list_fault l.names [] l.fn.owned l.machines))
    × (sees_from l.names l.owned (drop l.name-index l.machines) ≡ sees_from l.names l.fn.owned l.machines)
