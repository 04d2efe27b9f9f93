use Rattle.std.specs.Prelude.{◌≡◌, drop}
use Rattle.cb_seq.specs.Kinds.{kind_in}
use Rattle.cb_seq.proofs.kinds.kind_in.Given as goal

abbrev pub invariant-loop-named : goal.invariant-loop-named
invariant-loop-named l = kind_in (drop l.named-index l.names) l.name ≡ kind_in l.names l.name
