use Rattle.std.specs.Prelude.{◌≡◌, ◌++◌, drop}
use Rattle.cb_run_text.specs.Traces.{inits_text}
use Rattle.cb_run_text.proofs.trace.put_inits.Given as goal

abbrev pub invariant-loop-machine : goal.invariant-loop-machine
invariant-loop-machine l = l.out.items ++ inits_text l.sets.sets.items l.values (drop l.machine-index l.machines)
    ≡ l.fn.out.items ++ inits_text l.sets.sets.items l.values l.machines
