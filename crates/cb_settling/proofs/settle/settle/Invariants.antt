use Rattle.cb_settling.specs.Resolving.{Going}
use Rattle.cb_settling.proofs.settle.settle.Given as goal

abbrev pub invariant-loop : goal.invariant-loop
invariant-loop g l = Going l.system l.controller l.code l.place l.env l.counter l.at l.own l.sides
