use Rattle.std.proofs.Common.{◌≡◌, ◌++◌, drop, map}
use Rattle.cb_seq.specs.Validity.{claim_of}
use Rattle.cb_seq.specs.Premises.{premise_of}
use Rattle.cb_check.proofs.sequents.premise_sequents.Given as goal

abbrev pub invariant-loop-premise : goal.invariant-loop-premise
invariant-loop-premise l =
    map claim_of l.sequents.items ++ map (premise_of (claim_of l.sequent)) (drop l.premise-index l.premises) ≡ map (premise_of (claim_of l.sequent)) l.premises
