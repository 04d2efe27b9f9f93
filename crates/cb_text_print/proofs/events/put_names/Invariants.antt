use Rattle.std.proofs.Common.{◌≡◌, ◌++◌, drop, true}
use Rattle.cb_amn_print.specs.Machines.{names_text}
use Rattle.cb_text_print.proofs.events.put_names.Given as goal

abbrev pub invariant-loop-name : goal.invariant-loop-name
invariant-loop-name l = l.out.items ++ names_text l.first (drop l.name-index l.names) ≡ l.initial.out.items ++ names_text true l.names
