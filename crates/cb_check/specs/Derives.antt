-- When a rule applies, with all that is asked of every rule; when a certificate derives a claim, and its first bad node.
use Rattle.std.specs.Prelude.{ℕ, ◌+◌, ◌≡◌, nat_le, Bool, true, false, ◌&&◌, List, [], ◌∷◌, Option, Some, None, if◌then◌else◌, ⊤}
use Rattle.cb_term.specs.Tree.{FormulaTree}
use Rattle.cb_term.specs.Size.{formula_nodes}
use Rattle.cb_seq.specs.declared.rule.Rule.{Rule}
use Rattle.cb_seq.specs.declared.premise.Premise.{Premise}
use Rattle.cb_seq.specs.Tree.{CertTree, Node, CertTrees, End, More}
use Rattle.cb_seq.specs.Size.{cert_nodes}
use Rattle.cb_seq.specs.Arguments.{arguments_fit, rule_among}
use Rattle.cb_seq.specs.Validity.{Claim}
use Rattle.cb_seq.specs.Premises.{premise_of, Outcome, only_where}
use Rattle.cb_check_logic.specs.LogicRules.{logic_premises}
use Rattle.cb_check_names.specs.NameRules.{name_premises}
use Rattle.cb_check_numbers.specs.NumberRules.{number_premises}
use Rattle.cb_check_sets.specs.SetRules.{set_premises}

-- ---- rules

abbrev pub formulas_nodes : List FormulaTree → ℕ
formulas_nodes [] = 0
formulas_nodes (f ∷ fs) = formula_nodes f + formulas_nodes fs

-- of the hypotheses and the goal
abbrev pub claim_nodes : Claim → ℕ
claim_nodes q = formulas_nodes q.hypotheses + formula_nodes q.goal

-- no premise has more than 40,000 nodes
abbrev pub are_small : Claim → List Premise → Bool
are_small q [] = true
are_small q (p ∷ ps) = nat_le (claim_nodes (premise_of q p)) 40000 && are_small q ps

abbrev pub if_small : Claim → Outcome → Outcome
if_small q None = None
if_small q (Some ps) = only_where (are_small q ps) ps

abbrev pub or_else : Outcome → Outcome → Outcome
or_else None o = o
or_else (Some ps) o = Some ps

-- each rule is one of connectives, of names, of numbers or of sets
abbrev pub rule_premises : List ℕ → Rule → Claim → Outcome
rule_premises sizes r q =
    or_else (logic_premises sizes r q) (or_else (name_premises sizes r q) (or_else (number_premises sizes r q) (set_premises sizes r q)))

-- the premises of a rule whose arguments fit, where it applies
abbrev pub told_premises : List ℕ → Rule → Claim → Outcome
told_premises sizes r q = if arguments_fit sizes q.names r then if_small q (rule_premises sizes r q) else None

-- the premises of a rule. Its terms have the kinds that they have among the names of the claim
abbrev pub premises : List ℕ → Rule → Claim → Outcome
premises sizes r q = told_premises sizes (rule_among sizes q.names r) q

-- ---- certificates

module _ (sizes : List ℕ) where
  abbrev mutual
    -- the rule applies, and the children derive its premises in order
    pub Derives : CertTree → Claim → Type 0
    Derives (Node r cs) q = (ps : List Premise) × (premises sizes r q ≡ Some ps) × DeriveAll cs q ps

    pub DeriveAll : CertTrees → Claim → List Premise → Type 0
    DeriveAll End q [] = ⊤
    DeriveAll End q (p ∷ ps) = ⊥
    DeriveAll (More c cs) q [] = ⊥
    DeriveAll (More c cs) q (p ∷ ps) = Derives c (premise_of q p) × DeriveAll cs q ps

-- as many certificates as premises
abbrev pub are_as_many : CertTrees → List Premise → Bool
are_as_many End [] = true
are_as_many End (p ∷ ps) = false
are_as_many (More c cs) [] = false
are_as_many (More c cs) (p ∷ ps) = are_as_many cs ps

-- the first number, or the second one counted on from n
abbrev pub first_number : Option ℕ → ℕ → Option ℕ → Option ℕ
first_number (Some k) n o = Some k
first_number None n None = None
first_number None n (Some k) = Some (n + k)

-- a node is bad where its rule does not apply, or has another number of premises; else its first bad child counts
abbrev pub bad_node : Outcome → (List Premise → Bool) → (List Premise → Option ℕ) → Option ℕ
bad_node None fit children = Some 1
bad_node (Some ps) fit children = if fit ps then first_number None 1 (children ps) else Some 1

module _ (sizes : List ℕ) where
  abbrev mutual
    -- the number of the first bad node, in preorder from 1
    pub first_bad : CertTree → Claim → Option ℕ
    first_bad (Node r cs) q = bad_node (premises sizes r q) (are_as_many cs) (first_bad_child cs q)

    pub first_bad_child : CertTrees → Claim → List Premise → Option ℕ
    first_bad_child End q ps = None
    first_bad_child (More c cs) q [] = None
    first_bad_child (More c cs) q (p ∷ ps) = first_number (first_bad c (premise_of q p)) (cert_nodes c) (first_bad_child cs q ps)
