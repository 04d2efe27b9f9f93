use Rattle.std.proofs.Common.{◌≡◌, map, take}
use Rattle.cb_term.specs.declared.name.Name.{Name}
use Rattle.cb_term.specs.declared.value.Value.{Value}
use Rattle.cb_settling.proofs.op.values_in.Given as goal

abbrev pub invariant-loop-entry : goal.invariant-loop-entry
invariant-loop-entry l = l.values ≡ map (λ (e : Name × Value). e.1) (take l.entry-index l.entries)
