use Rattle.std.specs.Prelude.{◌≡◌, max, drop}
use Rattle.cb_seq.specs.Premises.{greatest}
use Rattle.cb_seq.proofs.premise.greatest.Given as goal

abbrev pub invariant-loop-named : goal.invariant-loop-named
invariant-loop-named l = max l.most (greatest (drop l.named-index l.names)) ≡ greatest l.names
