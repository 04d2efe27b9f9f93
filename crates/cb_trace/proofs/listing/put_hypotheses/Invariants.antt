use Rattle.std.specs.Prelude.{◌≡◌, ◌++◌, ◌+◌, drop}
use Rattle.cb_trace.specs.Texts.{hypotheses_text}
use Rattle.cb_trace.proofs.listing.put_hypotheses.Given as goal

abbrev pub invariant-loop-i : goal.invariant-loop-i
invariant-loop-i l = l.out.items ++ hypotheses_text l.sets.sets.items (l.i + 1) (drop l.i l.hypotheses)
    ≡ l.fn.out.items ++ hypotheses_text l.sets.sets.items 1 l.hypotheses
