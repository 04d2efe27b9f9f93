-- The rules on quantifiers and equations: where each applies, and its premises. What is asked of the kind of an argument supposes
-- that the argument has the kind that is written with it.
use Rattle.std.specs.Prelude.{ℕ, List, [], ◌∷◌, Option, Some, None}
use Rattle.cb_term.specs.declared.name.Name.{Name}
use Rattle.cb_term.specs.declared.kind.Kind.{Kind}
use Rattle.cb_term.specs.declared.sign.RelSign.TheVariants.{Equal}
use Rattle.cb_term.specs.Tree.{TermTree, Var, FormulaTree, Rel, Every, Exist}
use Rattle.cb_term.specs.Change.{open_formula}
use Rattle.cb_seq.specs.declared.rule.TermArgument.{TermArgument}
use Rattle.cb_seq.specs.declared.rule.TermArgument.TheVariants as term
use Rattle.cb_seq.specs.declared.rule.Rule.{Rule}
use Rattle.cb_seq.specs.declared.rule.Rule.TheVariants as rule
use Rattle.cb_seq.specs.Kinds.{fits}
use Rattle.cb_seq.specs.Arguments.{counts_as}
use Rattle.cb_seq.specs.Validity.{Claim}
use Rattle.cb_seq.specs.Premises.{hypothesis, fresh, proving, adding, Outcome, only_where}
use Rattle.cb_check_names.specs.Replace.{replaced}

-- ---- quantifiers. A fresh name has the text of the written name of the bound variable

-- the premise of ALLR: the body at its fresh name
abbrev pub shown_at : FormulaTree → Kind → Option Name → Outcome
shown_at f k None = None
shown_at f k (Some y) = Some (record { goal = Some (open_formula (Var y) f); added = []; opened = Some (y, k) } ∷ [])

-- ALLR
abbrev pub all_right : List (Name × Kind) → FormulaTree → Outcome
all_right names (Every x k f) = shown_at f k (fresh names x.text)
all_right names g = None

-- EXR
abbrev pub exist_right : TermArgument → FormulaTree → Outcome
exist_right (term.Term t l) (Exist x k f) = only_where (counts_as l k) (proving (open_formula t f) ∷ [])
exist_right t g = None

-- ALLL
abbrev pub all_left : TermArgument → Option FormulaTree → Outcome
all_left (term.Term t l) (Some (Every x k f)) = only_where (counts_as l k) (adding (open_formula t f ∷ []) ∷ [])
all_left t h = None

-- the premise of EXL: the body at its fresh name
abbrev pub known_at : FormulaTree → Kind → Option Name → Outcome
known_at f k None = None
known_at f k (Some y) = Some (record { goal = None; added = open_formula (Var y) f ∷ []; opened = Some (y, k) } ∷ [])

-- EXL
abbrev pub exist_left : List (Name × Kind) → Option FormulaTree → Outcome
exist_left names (Some (Exist x k f)) = known_at f k (fresh names x.text)
exist_left names h = None

-- ---- equations

-- the premise of EQ: the goal with t for s, where its kinds agree
unfoldable pub shown_changed : List ℕ → List (Name × Kind) → TermTree → TermTree → FormulaTree → Outcome
shown_changed sizes names s t g = only_where (fits sizes names [] (replaced s t g)) (proving (replaced s t g) ∷ [])

-- EQ
abbrev pub equal_right : List ℕ → List (Name × Kind) → Option FormulaTree → FormulaTree → Outcome
equal_right sizes names (Some (Rel Equal s t)) g = shown_changed sizes names s t g
equal_right sizes names e g = None

-- the premise of EQIN: the hypothesis with t for s, where its kinds agree
unfoldable pub known_changed : List ℕ → List (Name × Kind) → TermTree → TermTree → FormulaTree → Outcome
known_changed sizes names s t f = only_where (fits sizes names [] (replaced s t f)) (adding (replaced s t f ∷ []) ∷ [])

-- EQIN
abbrev pub equal_left : List ℕ → List (Name × Kind) → Option FormulaTree → Option FormulaTree → Outcome
equal_left sizes names (Some (Rel Equal s t)) (Some f) = known_changed sizes names s t f
equal_left sizes names e h = None

-- ---- all of these rules. Other rules have no premises here

abbrev pub name_premises : List ℕ → Rule → Claim → Outcome
name_premises sizes rule.AllR q = all_right q.names q.goal
name_premises sizes (rule.ExR t) q = exist_right t q.goal
name_premises sizes (rule.AllL h t) q = all_left t (hypothesis q.hypotheses h)
name_premises sizes (rule.ExL h) q = exist_left q.names (hypothesis q.hypotheses h)
name_premises sizes (rule.Eq e) q = equal_right sizes q.names (hypothesis q.hypotheses e) q.goal
name_premises sizes (rule.EqIn e h) q = equal_left sizes q.names (hypothesis q.hypotheses e) (hypothesis q.hypotheses h)
name_premises sizes r q = None
