use Rattle.std.proofs.Common.{◌≡◌, ◌++◌, drop}
use Rattle.std.specs.List.{flat_map}
use Rattle.cb_amn_print.specs.Machines.{machine_text}
use Rattle.cb_text_print.proofs.texts.put_machines.Given as goal

abbrev pub invariant-loop-machine : goal.invariant-loop-machine
invariant-loop-machine l = l.out.items ++ flat_map machine_text (drop l.machine-index l.machines) ≡ l.initial.out.items ++ flat_map machine_text l.machines
