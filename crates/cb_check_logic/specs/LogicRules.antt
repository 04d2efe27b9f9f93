-- The rules on connectives and booleans: where each applies, and its premises. What is asked of the kind of an argument supposes
-- that it has the kind that is written with it.
use Rattle.std.specs.Prelude.{ℕ, Bool, true, false, List, [], ◌∷◌, Option, Some, None}
use Rattle.cb_term.specs.declared.kind.Kind.TheVariants as kind
use Rattle.cb_term.specs.declared.sign.RelSign.TheVariants.{Equal, Subset}
use Rattle.cb_term.specs.Tree.{TermTree, Truth, Test, FormulaTree, False, Rel, Not, And, Or, Implies, Iff}
use Rattle.cb_term.specs.Same.{same_term, same}
use Rattle.cb_seq.specs.declared.rule.FormulaArgument.{FormulaArgument}
use Rattle.cb_seq.specs.declared.rule.FormulaArgument.TheVariants as formula
use Rattle.cb_seq.specs.declared.rule.TermArgument.{TermArgument}
use Rattle.cb_seq.specs.declared.rule.TermArgument.TheVariants as term
use Rattle.cb_seq.specs.declared.rule.Rule.{Rule}
use Rattle.cb_seq.specs.declared.rule.Rule.TheVariants as rule
use Rattle.cb_seq.specs.declared.premise.Premise.{Premise}
use Rattle.cb_seq.specs.Validity.{Claim}
use Rattle.cb_seq.specs.Premises.{hypothesis, proving, adding, Outcome, only_where}

-- the goal under a further hypothesis
abbrev pub assuming : FormulaTree → FormulaTree → Premise
assuming f g = record { goal = Some g; added = f ∷ []; opened = None }

-- ---- rules without premises

-- HYP: the hypothesis is the goal, the written names of bound variables aside
abbrev pub is_goal : FormulaTree → Option FormulaTree → Bool
is_goal g None = false
is_goal g (Some h) = same h g

-- CONTRA: the second hypothesis is the negation of the first
abbrev pub is_negation : Option FormulaTree → Option FormulaTree → Bool
is_negation (Some f) (Some (Not g)) = same f g
is_negation f g = false

-- REFL
abbrev pub is_reflexive : FormulaTree → Bool
is_reflexive (Rel Equal s t) = same_term s t
is_reflexive (Rel Subset s t) = same_term s t
is_reflexive g = false

-- ---- a formula that is given

-- CUT
abbrev pub cut : FormulaArgument → Outcome
cut (formula.Formula f) = Some (proving f ∷ adding (f ∷ []) ∷ [])
cut formula.Unclear = None

-- CASES
abbrev pub cases : FormulaArgument → Outcome
cases (formula.Formula f) = Some (adding (f ∷ []) ∷ adding (Not f ∷ []) ∷ [])
cases formula.Unclear = None

-- ---- the goal

-- ANDR
abbrev pub and_right : FormulaTree → Outcome
and_right (And f g) = Some (proving f ∷ proving g ∷ [])
and_right g = None

-- OR1
abbrev pub or_first : FormulaTree → Outcome
or_first (Or f g) = Some (proving f ∷ [])
or_first g = None

-- OR2
abbrev pub or_second : FormulaTree → Outcome
or_second (Or f g) = Some (proving g ∷ [])
or_second g = None

-- IMPR
abbrev pub implies_right : FormulaTree → Outcome
implies_right (Implies f g) = Some (assuming f g ∷ [])
implies_right g = None

-- NOTR
abbrev pub not_right : FormulaTree → Outcome
not_right (Not f) = Some (assuming f False ∷ [])
not_right g = None

-- IFFR
abbrev pub iff_right : FormulaTree → Outcome
iff_right (Iff f g) = Some (assuming f g ∷ assuming g f ∷ [])
iff_right g = None

-- ---- a hypothesis

-- ANDL
abbrev pub and_left : Option FormulaTree → Outcome
and_left (Some (And f g)) = Some (adding (f ∷ g ∷ []) ∷ [])
and_left h = None

-- ORL
abbrev pub or_left : Option FormulaTree → Outcome
or_left (Some (Or f g)) = Some (adding (f ∷ []) ∷ adding (g ∷ []) ∷ [])
or_left h = None

-- IMPL
abbrev pub implies_left : Option FormulaTree → Outcome
implies_left (Some (Implies f g)) = Some (proving f ∷ adding (g ∷ []) ∷ [])
implies_left h = None

-- IFFL
abbrev pub iff_left : Option FormulaTree → Outcome
iff_left (Some (Iff f g)) = Some (adding (Implies f g ∷ Implies g f ∷ []) ∷ [])
iff_left h = None

-- NOTL
abbrev pub not_left : Option FormulaTree → Outcome
not_left (Some (Not f)) = Some (proving f ∷ [])
not_left h = None

-- ---- booleans

-- `t = TRUE` or `t = FALSE`
abbrev pub is_truth : TermTree → Bool → FormulaTree
is_truth t b = Rel Equal t (Truth b)

-- BOOLCASES
abbrev pub bool_cases : TermArgument → Outcome
bool_cases (term.Term t kind.Truth) = Some (adding (is_truth t true ∷ []) ∷ adding (is_truth t false ∷ []) ∷ [])
bool_cases t = None

-- what it says that the truth value of f is TRUE, or FALSE
abbrev pub test_says : FormulaTree → Bool → FormulaTree
test_says f true = f
test_says f false = Not f

-- BOOLR
abbrev pub bool_right : FormulaTree → Outcome
bool_right (Rel Equal (Test f) (Truth b)) = Some (proving (test_says f b) ∷ [])
bool_right g = None

-- BOOLL
abbrev pub bool_left : Option FormulaTree → Outcome
bool_left (Some (Rel Equal (Test f) (Truth b))) = Some (adding (test_says f b ∷ []) ∷ [])
bool_left h = None

-- ---- all of these rules. Other rules have no premises here

abbrev pub logic_premises : List ℕ → Rule → Claim → Outcome
logic_premises sizes (rule.Hyp h) q = only_where (is_goal q.goal (hypothesis q.hypotheses h)) []
logic_premises sizes (rule.Contra h j) q = only_where (is_negation (hypothesis q.hypotheses h) (hypothesis q.hypotheses j)) []
logic_premises sizes rule.Refl q = only_where (is_reflexive q.goal) []
logic_premises sizes (rule.Cut f) q = cut f
logic_premises sizes (rule.Cases f) q = cases f
logic_premises sizes rule.AndR q = and_right q.goal
logic_premises sizes rule.Or1 q = or_first q.goal
logic_premises sizes rule.Or2 q = or_second q.goal
logic_premises sizes rule.ImpR q = implies_right q.goal
logic_premises sizes rule.NotR q = not_right q.goal
logic_premises sizes rule.IffR q = iff_right q.goal
logic_premises sizes (rule.AndL h) q = and_left (hypothesis q.hypotheses h)
logic_premises sizes (rule.OrL h) q = or_left (hypothesis q.hypotheses h)
logic_premises sizes (rule.ImpL h) q = implies_left (hypothesis q.hypotheses h)
logic_premises sizes (rule.IffL h) q = iff_left (hypothesis q.hypotheses h)
logic_premises sizes (rule.NotL h) q = not_left (hypothesis q.hypotheses h)
logic_premises sizes (rule.BoolCases t) q = bool_cases t
logic_premises sizes rule.BoolR q = bool_right q.goal
logic_premises sizes (rule.BoolL h) q = bool_left (hypothesis q.hypotheses h)
logic_premises sizes r q = None
