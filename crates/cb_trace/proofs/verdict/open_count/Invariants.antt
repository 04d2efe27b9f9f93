use Rattle.std.specs.Prelude.{◌≡◌, ◌≤◌, ◌+◌, drop}
use Rattle.cb_trace.specs.Texts.{open_count}
use Rattle.cb_trace.proofs.verdict.open_count.Given as goal

abbrev pub invariant-loop-line : goal.invariant-loop-line
invariant-loop-line l = (l.count + open_count (drop l.line-index l.lines) ≡ open_count l.lines) × (l.count ≤ l.line-index)
