use Rattle.std.specs.Prelude.{◌≡◌, ◌++◌, true, drop}
use Rattle.cb_run_text.specs.Traces.{values_text}
use Rattle.cb_run_text.proofs.values.put_values.Given as goal

abbrev pub invariant-loop-i : goal.invariant-loop-i
invariant-loop-i l = l.out.items ++ values_text l.sets.sets.items l.first (drop l.i l.kinds) (drop l.i l.values)
    ≡ l.fn.out.items ++ values_text l.sets.sets.items true l.kinds l.values
