use Rattle.std.proofs.Common.{◌≡◌, take}
use Rattle.cb_term.specs.Table.{sizes_of}
use Rattle.cb_verdicts.specs.Verdicts.{verdicts}
use Rattle.cb_verdicts.proofs.judge.all_verdicts.Given as goal

abbrev pub invariant-loop-obligation : goal.invariant-loop-obligation
invariant-loop-obligation l = l.lines.items ≡ verdicts (sizes_of l.sets) l.symbols l.proofs (take l.obligation-index l.list)
