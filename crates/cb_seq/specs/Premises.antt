-- Premises, told by what they have other than the claim that they come from, and when a rule is sound.
use Rattle.std.specs.Prelude.{ℕ, zero, suc, ◌+◌, ◌≡◌, max, Bool, true, false, List, [], ◌∷◌, ◌++◌, map, Option, Some, None, if◌then◌else◌, slice_get, nat_lt}
use Rattle.cb_term.specs.declared.name.Name.{Name}
use Rattle.cb_term.specs.declared.kind.Kind.{Kind}
use Rattle.cb_term.specs.Tree.{FormulaTree}
use Rattle.cb_seq.specs.declared.rule.Rule.{Rule}
use Rattle.cb_seq.specs.declared.premise.Premise.{Premise}
use Rattle.cb_seq.specs.declared.premise.SequentRef.{SequentRef}
use Rattle.cb_seq.specs.Arguments.{arguments_fit}
use Rattle.cb_seq.specs.Validity.{Claim, Valid, AllValid, Kinded, AllKinded}

abbrev pub claim_at : SequentRef → Claim
claim_at s = record { names = s.names.now; hypotheses = s.hypotheses.now; goal = s.goal.now }

-- ---- what rules read

-- the hypothesis with this number, counted from 1
abbrev pub hypothesis : List FormulaTree → ℕ → Option FormulaTree
hypothesis fs zero = None
hypothesis fs (suc n) = slice_get fs n

-- the greatest number of a name
abbrev pub greatest : List (Name × Kind) → ℕ
greatest [] = 0
greatest (n ∷ ns) = max n.0.number (greatest ns)

-- a name with this text that is not among the names. None where no number is left for it
abbrev pub fresh : List (Name × Kind) → List ℕ → Option Name
fresh names text = if nat_lt (greatest names) 4294967295 then Some (record { text = text; number = greatest names + 1 }) else None

-- ---- what rules answer

abbrev pub with_opened : List (Name × Kind) → Option (Name × Kind) → List (Name × Kind)
with_opened names None = names
with_opened names (Some n) = names ++ n ∷ []

abbrev pub or_goal : FormulaTree → Option FormulaTree → FormulaTree
or_goal g None = g
or_goal g (Some f) = f

-- the claim of a premise
abbrev pub premise_of : Claim → Premise → Claim
premise_of q p = record { names = with_opened q.names p.opened; hypotheses = q.hypotheses ++ p.added; goal = or_goal q.goal p.goal }

abbrev pub premises_of : Claim → List Premise → List Claim
premises_of q ps = map (premise_of q) ps

abbrev pub proving : FormulaTree → Premise
proving g = record { goal = Some g; added = []; opened = None }

abbrev pub adding : List FormulaTree → Premise
adding fs = record { goal = None; added = fs; opened = None }

-- what a rule answers: its premises, where it applies
abbrev pub Outcome : Type 0
Outcome = Option (List Premise)

abbrev pub only_where : Bool → List Premise → Outcome
only_where true ps = Some ps
only_where false ps = None

-- ---- soundness

-- the premises are kinded, and where they are valid, so is the claim
abbrev pub Carry : List ℕ → Claim → List Premise → Type 0
Carry sizes q ps = AllKinded sizes (premises_of q ps) × (AllValid sizes (premises_of q ps) → Valid sizes q)

-- what the rule answers carries each kinded claim among whose names its arguments fit
abbrev pub Sound : List ℕ → (Rule → Claim → Outcome) → Rule → Type 0
Sound sizes rules rule = (q : Claim) (ps : List Premise) → rules rule q ≡ Some ps → arguments_fit sizes q.names rule ≡ true → Kinded sizes q → Carry sizes q ps
