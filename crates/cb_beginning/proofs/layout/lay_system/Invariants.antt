use Rattle.cb_beginning.specs.Layouts.{IsLaidTo}
use Rattle.cb_beginning.proofs.layout.lay_system.Given as goal

abbrev pub invariant-loop-at : goal.invariant-loop-at
invariant-loop-at l = IsLaidTo l.system l.at-index l.layout
