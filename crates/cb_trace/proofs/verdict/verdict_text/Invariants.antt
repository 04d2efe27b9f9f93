use Rattle.std.specs.Prelude.{◌≡◌, ◌++◌, drop}
use Rattle.cb_trace.specs.Texts.{lines_text}
use Rattle.cb_trace.proofs.verdict.verdict_text.Given as goal

abbrev pub invariant-loop-line : goal.invariant-loop-line
invariant-loop-line l = l.out.items ++ lines_text (drop l.line-index l.lines) ≡ lines_text l.lines
