use Rattle.std.proofs.Common.{◌≡◌, ◌++◌, drop, map}
use Rattle.cb_term.specs.Change.{mapped_term}
use Rattle.cb_term.proofs.change.+change.Given as goal

abbrev pub invariant-change_term-loop-term : goal.invariant-change_term-loop-term
invariant-change_term-loop-term g l =
    let f = mapped_term (g.C.Change.names l.change) (g.C.Change.bounds l.change) l.depth in
    l.changed ++ map f (drop l.term-index l.term-items) ≡ map f l.term-items
