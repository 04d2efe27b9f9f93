use Rattle.std.specs.Prelude.{◌≡◌, ◌++◌, true, drop}
use Rattle.cb_run_text.specs.Traces.{items_text}
use Rattle.cb_run_text.proofs.values.put_items.Given as goal

abbrev pub invariant-loop-i : goal.invariant-loop-i
invariant-loop-i l = l.out.items ++ items_text l.sets.sets.items l.base l.first (drop l.i l.items)
    ≡ l.fn.out.items ++ items_text l.sets.sets.items l.base true l.items
