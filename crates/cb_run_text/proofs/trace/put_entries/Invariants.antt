use Rattle.std.specs.Prelude.{◌≡◌, ◌++◌, drop}
use Rattle.cb_run_text.specs.Traces.{entries_text}
use Rattle.cb_run_text.proofs.trace.put_entries.Given as goal

abbrev pub invariant-loop-entry : goal.invariant-loop-entry
invariant-loop-entry l = l.out.items ++ entries_text l.system (drop l.entry-index l.journal)
    ≡ l.fn.out.items ++ entries_text l.system l.journal
