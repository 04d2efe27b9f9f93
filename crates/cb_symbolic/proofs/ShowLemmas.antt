-- What is shown inside `!`, and how large a sequent is.
use Rattle.std.proofs.Common.{◌≡◌, ℕ, ◌+◌, min, List, [], ◌∷◌, ◌++◌, ap, ◌∙◌, arith}
use Rattle.cb_term.specs.declared.kind.Kind.{Kind}
use Rattle.cb_term.specs.declared.name.Name.{Name}
use Rattle.cb_term.specs.Size.{formula_nodes}
use Rattle.cb_term.specs.Tree.{FormulaTree, Every}
use Rattle.cb_seq.specs.Validity.{Claim}
use Rattle.cb_obligations.specs.Branches.{numbered}
use Rattle.cb_obligations.specs.Pieces.{pieces_under}
use Rattle.cb_obligations.specs.Steps.{Step, steps_under}
use Rattle.cb_wp.specs.Limits.{formulas_nodes, claim_nodes}
use Rattle.cb_conditions.specs.Reading.{read}
use Rattle.cb_symbolic.specs.declared.walk.Reached.{Reached}
use Rattle.cb_symbolic.specs.declared.walk.Walk.{Walk}
use Rattle.cb_symbolic.specs.Stores.{meaning_of}
use Rattle.cb_symbolic.specs.Walks.{steps_inside, pieces_inside, claim_inside}
use Rattle.cb_symbolic.proofs.ReadingLemmas.{depth, opened_size}

-- inside `!` the name is opened under the next number
module _ (ys zs : List Name) (r : Reached) (w : Walk) (n : ℕ) (ns : List (Name × Kind)) (x : Name) (kind : Kind) (f : FormulaTree)
    (is_next : n ≡ r.number + 1) (is_opened : zs ≡ numbered x n ∷ ys) (is_names : ns ≡ w.names ++ (numbered x n, kind) ∷ []) where
  pub every_steps :
      steps_inside zs (record { number = n; nodes = r.nodes }) (record { store = w.store; names = ns; hypotheses = w.hypotheses }) f ≡ steps_inside ys r w (Every x kind f)
  every_steps =
      let at : ℕ → FormulaTree → List Step = λ i g. steps_under (numbered x i ∷ ys) i (w.names ++ (numbered x i, kind) ∷ []) w.hypotheses g in
      let g : FormulaTree = read (meaning_of w.store) f in
      let here : steps_under zs n ns w.hypotheses g ≡ at n g = λ l. steps_under (is_opened l) n (is_names l) w.hypotheses g in
      here ∙ (ap (λ i. at i g) is_next ∙ ap (at (r.number + 1)) (depth (meaning_of w.store) f 0 1))

  pub every_pieces :
      pieces_inside zs (record { number = n; nodes = r.nodes }) (record { store = w.store; names = ns; hypotheses = w.hypotheses }) f ≡ pieces_inside ys r w (Every x kind f)
  every_pieces =
      let at : ℕ → FormulaTree → List Claim = λ i g. pieces_under (numbered x i ∷ ys) i (w.names ++ (numbered x i, kind) ∷ []) w.hypotheses g in
      let g : FormulaTree = read (meaning_of w.store) f in
      let here : pieces_under zs n ns w.hypotheses g ≡ at n g = λ l. pieces_under (is_opened l) n (is_names l) w.hypotheses g in
      here ∙ (ap (λ i. at i g) is_next ∙ ap (at (r.number + 1)) (depth (meaning_of w.store) f 0 1))

-- a sequent's nodes are counted before its goal is read
pub claim_size : (ys : List Name) (w : Walk) (f : FormulaTree) (before goal all : ℕ) → before ≡ min (formulas_nodes w.hypotheses) 18446744073709551615 →
    goal ≡ min (formula_nodes (read (meaning_of w.store) f)) 18446744073709551615 → all ≡ min (before + goal) 18446744073709551615 →
    all ≡ min (claim_nodes (claim_inside ys w f)) 18446744073709551615
claim_size ys w f before goal all is_before is_goal is_all = omega (arith, is_before, is_goal, is_all, opened_size (meaning_of w.store) ys f)
