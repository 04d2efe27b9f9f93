-- What a certificate shows.
use Rattle.std.specs.Prelude.{ℕ, ◌≡◌, ◌↔◌, List, None}
use Rattle.cb_seq.specs.Tree.{CertTree}
use Rattle.cb_seq.specs.Validity.{Claim, Valid, Kinded}
use Rattle.cb_check.specs.Derives.{Derives, first_bad}

-- what is derived of a kinded claim is valid
abbrev pub DerivedIsValid : Type 0
DerivedIsValid = (sizes : List ℕ) (c : CertTree) (q : Claim) → Kinded sizes q → Derives sizes c q → Valid sizes q

-- a certificate derives a claim exactly where it has no bad node
abbrev pub DerivesWithoutBad : Type 0
DerivesWithoutBad = (sizes : List ℕ) (c : CertTree) (q : Claim) → Derives sizes c q ↔ (first_bad sizes c q ≡ None)
