-- A formula cut into sequents.
use Rattle.std.specs.Prelude.{ℕ, ◌+◌, ◌==◌, List, [], ◌∷◌, ◌++◌, if◌then◌else◌}
use Rattle.cb_term.specs.declared.name.Name.{Name}
use Rattle.cb_term.specs.declared.kind.Kind.{Kind}
use Rattle.cb_term.specs.Tree.{TermTree, Var, Bound, FormulaTree, True, And, Implies, Every}
use Rattle.cb_term.specs.Change.{mapped_formula, name_stays}
use Rattle.cb_seq.specs.Validity.{Claim}
use Rattle.cb_obligations.specs.Branches.{numbered}

-- the operands of `&`, from left to right, without those that are `btrue`
abbrev pub conjuncts : FormulaTree → List FormulaTree
conjuncts (And a b) = conjuncts a ++ conjuncts b
conjuncts True = []
conjuncts f = f ∷ []

-- the opened names in the place of the variables bound outside, the innermost first
abbrev pub freed : List Name → ℕ → ℕ → TermTree
freed [] k j = Bound j
freed (y ∷ ys) k j = if j == k then Var y else freed ys (k + 1) j

abbrev pub with_opened : List Name → FormulaTree → FormulaTree
with_opened ys f = mapped_formula name_stays (freed ys) 0 f

-- under the hypotheses, with the names `ys` opened on the way, `n` of them with those before
abbrev pub pieces_under : List Name → ℕ → List (Name × Kind) → List FormulaTree → FormulaTree → List Claim
pieces_under ys n names hyps (And a b) = pieces_under ys n names hyps a ++ pieces_under ys n names hyps b
pieces_under ys n names hyps (Implies a b) = pieces_under ys n names (hyps ++ conjuncts (with_opened ys a)) b
pieces_under ys n names hyps (Every x kind f) =
    pieces_under (numbered x (n + 1) ∷ ys) (n + 1) (names ++ (numbered x (n + 1), kind) ∷ []) hyps f
pieces_under ys n names hyps True = []
pieces_under ys n names hyps f = record { names = names; hypotheses = hyps; goal = with_opened ys f } ∷ []

abbrev pub pieces : List (Name × Kind) → List FormulaTree → ℕ → FormulaTree → List Claim
pieces names hyps n f = pieces_under [] n names hyps f
