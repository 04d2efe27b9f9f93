-- Premises as sequents, where a rule applies.
use Rattle.std.specs.Prelude.{List, map, Option, Some, None, Vec}
use Rattle.std.specs.declared.alloc.Global.{Global}
use Rattle.cb_seq.specs.declared.premise.Premise.{Premise}
use Rattle.cb_seq.specs.declared.sequent.Sequent.{Sequent}
use Rattle.cb_seq.specs.Validity.{Claim, claim_of}
use Rattle.cb_seq.specs.Premises.{premises_of, Outcome}

-- what the sequents say, where there are any
abbrev pub claims_told : Option (Vec Sequent Global) → Option (List Claim)
claims_told None = None
claims_told (Some v) = Some (map claim_of v.items)

-- the claims of the premises, where the rule applies
abbrev pub premises_told : Claim → Outcome → Option (List Claim)
premises_told q None = None
premises_told q (Some ps) = Some (premises_of q ps)
