use Rattle.cb_beginning.proofs.LayoutLemmas.{HasFirst}
use Rattle.cb_beginning.proofs.layout.lay_bodies.Given as goal

abbrev pub invariant-loop-definition : goal.invariant-loop-definition
invariant-loop-definition l = HasFirst l.controller l.fn.code l.code l.bodies l.definition-index
