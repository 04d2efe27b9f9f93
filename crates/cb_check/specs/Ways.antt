-- What the walk over a certificate holds and tells.
use Rattle.std.specs.Prelude.{ℕ, ◌-◌, ◌^◌, ◌≡◌, min, take, List, [], ◌∷◌, Option, Some, None, ⊤}
use Rattle.cb_term.specs.Tree.{FormulaTree}
use Rattle.cb_term.specs.Size.{formula_nodes}
use Rattle.cb_seq.specs.declared.rule.Rule.{Rule}
use Rattle.cb_seq.specs.Tree.{CertTree}
use Rattle.cb_seq.specs.Size.{cert_nodes}
use Rattle.cb_seq.specs.Validity.{Claim}
use Rattle.cb_check.specs.declared.premises.Counts.{Counts}
use Rattle.cb_check.specs.declared.walk.Way.{Way}
use Rattle.cb_check.specs.declared.walk.Entered.{Entered}
use Rattle.cb_check.specs.declared.walk.Walk.{Walk}
use Rattle.cb_check.specs.declared.walk.Walk.TheVariants as walk
use Rattle.cb_check.specs.declared.walk.CheckFault.{CheckFault}
use Rattle.cb_check.specs.declared.walk.CheckFault.TheVariants as fault
use Rattle.cb_check.specs.Derives.{first_bad, formulas_nodes}

-- a count that stays at 2^64 - 1
abbrev pub capped : ℕ → ℕ
capped n = min n (2 ^ 64 - 1)

-- the counts of the hypotheses and of the goal
abbrev pub AreCounts : Counts → Claim → Type 0
AreCounts n q = (n.hypotheses ≡ capped (formulas_nodes q.hypotheses)) × (n.goal ≡ capped (formula_nodes q.goal))

-- the first rule, or this one where there is none
abbrev pub first_or : Rule → List Rule → Rule
first_or r [] = r
first_or r (told ∷ rules) = told

-- ---- the way from the root to a node

abbrev pub claim_on : Way → FormulaTree → Claim
claim_on w g = record { names = w.names.items; hypotheses = w.hypotheses; goal = g }

-- the first way is the front part of the second that was measured
abbrev pub IsAfter : Way → Entered → Way → Type 0
IsAfter v e w = (take e.names w.names.items ≡ v.names.items) × (take e.hypotheses w.hypotheses ≡ v.hypotheses)

-- the same names and hypotheses
abbrev pub IsAsBefore : Way → Way → Type 0
IsAsBefore v w = (v.names.items ≡ w.names.items) × (v.hypotheses ≡ w.hypotheses)

-- ---- answers

-- the number of the first bad node, or 2^64 - 1 where it is greater
abbrev pub IsFirstBad : List ℕ → ℕ → CertTree → Claim → Type 0
IsFirstBad sizes k c q = (n : ℕ) × (first_bad sizes c q ≡ Some n) × (k ≡ capped n)

-- how many nodes were met and none bad, or the first bad one
abbrev pub Tells : List ℕ → Walk → CertTree → Claim → Type 0
Tells sizes (walk.Fine n) c q = (first_bad sizes c q ≡ None) × (n ≡ capped (cert_nodes c))
Tells sizes (walk.Bad k) c q = IsFirstBad sizes k c q

-- want of memory has no cause
abbrev pub Refuses : List ℕ → CheckFault → CertTree → Claim → Type 0
Refuses sizes (fault.Bad k) c q = IsFirstBad sizes k c q
Refuses sizes fault.Memory c q = ⊤
