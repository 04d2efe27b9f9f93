-- What is met on the way through a formula, in order: limits are counted over it.
use Rattle.std.specs.Prelude.{ℕ, ◌+◌, List, [], ◌∷◌, ◌++◌}
use Rattle.cb_term.specs.declared.name.Name.{Name}
use Rattle.cb_term.specs.declared.kind.Kind.{Kind}
use Rattle.cb_term.specs.Tree.{TermTree, FormulaTree, True, And, Implies, Every}
use Rattle.cb_seq.specs.Validity.{Claim}
use Rattle.cb_obligations.specs.Branches.{numbered}
use Rattle.cb_obligations.specs.Pieces.{conjuncts, with_opened}

pub data Step : Type 0 where
  -- the hypotheses of a way, where some have been added to them
  Reach : List FormulaTree → Step
  -- the term that a result stands for
  Weigh : TermTree → Step
  -- a sequent
  Make : Claim → Step

-- the way of `pieces_under`
abbrev pub steps_under : List Name → ℕ → List (Name × Kind) → List FormulaTree → FormulaTree → List Step
steps_under ys n names hyps (And a b) = steps_under ys n names hyps a ++ steps_under ys n names hyps b
steps_under ys n names hyps (Implies a b) =
    Reach (hyps ++ conjuncts (with_opened ys a)) ∷ steps_under ys n names (hyps ++ conjuncts (with_opened ys a)) b
steps_under ys n names hyps (Every x kind f) =
    steps_under (numbered x (n + 1) ∷ ys) (n + 1) (names ++ (numbered x (n + 1), kind) ∷ []) hyps f
steps_under ys n names hyps True = []
steps_under ys n names hyps f = Make (record { names = names; hypotheses = hyps; goal = with_opened ys f }) ∷ []

-- the sequents alone
abbrev pub made : List Step → List Claim
made [] = []
made (Reach hyps ∷ steps) = made steps
made (Weigh t ∷ steps) = made steps
made (Make q ∷ steps) = q ∷ made steps
