-- The rules on numbers and on evaluation: where each applies, and its premises. What is asked of the kinds of arguments supposes
-- that each argument has the kind that is written with it.
use Rattle.std.specs.Prelude.{ℕ, ℤ, pos, int_lt, Bool, true, false, List, [], ◌∷◌, Option, Some, None}
use Rattle.cb_term.specs.declared.name.Name.{Name}
use Rattle.cb_term.specs.declared.kind.Kind.{Kind}
use Rattle.cb_term.specs.declared.kind.Kind.TheVariants as kind
use Rattle.cb_term.specs.declared.sign.TermSign.TheVariants.{Add, Mul, Div, Mod, Range}
use Rattle.cb_term.specs.declared.sign.RelSign.TheVariants.{Equal, Less, AtMost, Member}
use Rattle.cb_term.specs.Tree.{TermTree, Num, Bin, FormulaTree, Rel}
use Rattle.cb_eval.specs.ClosedTruth.{closed_truth}
use Rattle.cb_seq.specs.declared.rule.TermArgument.{TermArgument}
use Rattle.cb_seq.specs.declared.rule.TermArgument.TheVariants as term
use Rattle.cb_seq.specs.declared.rule.Rule.{Rule}
use Rattle.cb_seq.specs.declared.rule.Rule.TheVariants as rule
use Rattle.cb_seq.specs.Kinds.{kind_of}
use Rattle.cb_seq.specs.Validity.{Claim}
use Rattle.cb_seq.specs.Premises.{hypothesis, proving, adding, Outcome, only_where}
use Rattle.cb_check_numbers.specs.Linear.{is_integer, linear_sum}

-- ---- evaluation

-- EVAL
abbrev pub evaluated : Option Bool → Outcome
evaluated (Some true) = Some []
evaluated b = None

-- EVALNOT
abbrev pub refuted : Option Bool → Outcome
refuted (Some false) = Some []
refuted b = None

abbrev pub evaluated_not : List ℕ → Option FormulaTree → Outcome
evaluated_not sizes None = None
evaluated_not sizes (Some f) = refuted (closed_truth sizes f)

-- ---- order

-- SPLIT
abbrev pub split : TermArgument → TermArgument → Outcome
split (term.Term s kind.Integer) (term.Term t kind.Integer) =
    Some (adding (Rel Less s t ∷ []) ∷ adding (Rel Equal s t ∷ []) ∷ adding (Rel Less t s ∷ []) ∷ [])
split s t = None

-- EQLE
abbrev pub equal_at_most : List ℕ → List (Name × Kind) → FormulaTree → Outcome
equal_at_most sizes names (Rel Equal s t) =
    only_where (is_integer (kind_of sizes names [] s)) (proving (Rel AtMost s t) ∷ proving (Rel AtMost t s) ∷ [])
equal_at_most sizes names g = None

-- RNG
abbrev pub range_right : FormulaTree → Outcome
range_right (Rel Member t (Bin Range a b)) = Some (proving (Rel AtMost a t) ∷ proving (Rel AtMost t b) ∷ [])
range_right g = None

-- RNGL
abbrev pub range_left : Option FormulaTree → Outcome
range_left (Some (Rel Member t (Bin Range a b))) = Some (adding (Rel AtMost a t ∷ Rel AtMost t b ∷ []) ∷ [])
range_left h = None

-- ---- products and quotients

-- what is known of the quotient and the rest of t by a positive d
abbrev pub quotient_facts : TermTree → TermTree → List FormulaTree
quotient_facts t d =
    Rel Equal t (Bin Add (Bin Mul d (Bin Div t d)) (Bin Mod t d)) ∷ Rel AtMost (Num (pos 0)) (Bin Mod t d) ∷ Rel Less (Bin Mod t d) d ∷ []

-- DIVMOD
abbrev pub div_mod : TermArgument → ℤ → Outcome
div_mod (term.Term t kind.Integer) d = only_where (int_lt (pos 0) d) (adding (quotient_facts t (Num d)) ∷ [])
div_mod t d = None

-- MULSIGN
abbrev pub mul_sign : TermArgument → TermArgument → Outcome
mul_sign (term.Term s kind.Integer) (term.Term t kind.Integer) =
    Some (proving (Rel AtMost (Num (pos 0)) s) ∷ proving (Rel AtMost (Num (pos 0)) t) ∷ adding (Rel AtMost (Num (pos 0)) (Bin Mul s t) ∷ []) ∷ [])
mul_sign s t = None

-- ---- all of these rules. Other rules have no premises here

abbrev pub number_premises : List ℕ → Rule → Claim → Outcome
number_premises sizes rule.Eval q = evaluated (closed_truth sizes q.goal)
number_premises sizes (rule.EvalNot h) q = evaluated_not sizes (hypothesis q.hypotheses h)
number_premises sizes (rule.Lin rows) q = linear_sum sizes q rows
number_premises sizes (rule.Split s t) q = split s t
number_premises sizes rule.EqLe q = equal_at_most sizes q.names q.goal
number_premises sizes rule.Rng q = range_right q.goal
number_premises sizes (rule.RngL h) q = range_left (hypothesis q.hypotheses h)
number_premises sizes (rule.DivMod t d) q = div_mod t d
number_premises sizes (rule.MulSign s t) q = mul_sign s t
number_premises sizes r q = None
