use Rattle.std.specs.Prelude.{◌≡◌, ◌++◌, drop}
use Rattle.cb_run_text.specs.Traces.{variables_text}
use Rattle.cb_run_text.proofs.trace.put_variables.Given as goal

abbrev pub invariant-loop-variable : goal.invariant-loop-variable
invariant-loop-variable l = l.out.items ++ variables_text l.sets.sets.items l.machine l.values (drop l.variable-index l.variables)
    ≡ l.fn.out.items ++ variables_text l.sets.sets.items l.machine l.values l.variables
