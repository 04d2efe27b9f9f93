use Rattle.std.specs.Prelude.{◌≡◌, drop}
use Rattle.cb_term.specs.Table.{sizes_of}
use Rattle.cb_term.specs.Tree.{trees_of}
use Rattle.cb_seq.specs.Kinds.{kind_of_all}
use Rattle.cb_seq.proofs.kinds.+kinds.Given as goal

abbrev pub invariant-kind_of-loop-i : goal.invariant-kind_of-loop-i
invariant-kind_of-loop-i l = kind_of_all (sizes_of l.sets) l.names l.bound (trees_of (drop l.i l.terms)) ≡ l.kind
