-- Where a walk stands, as its code holds it, and how far back it can go.
use Rattle.std.specs.Prelude.{ℕ, ◌≡◌, ◌-◌, ◌^◌, min, List, ◌∷◌, ◌++◌, length, take}
use Rattle.cb_term.specs.declared.name.Name.{Name}
use Rattle.cb_term.specs.Tree.{FormulaTree}
use Rattle.cb_seq.specs.Validity.{Claim}
use Rattle.cb_obligations.specs.Pieces.{pieces_under}
use Rattle.cb_obligations.specs.Steps.{Step, steps_under}
use Rattle.cb_wp.specs.Limits.{claim, formulas_nodes, count, Faulted}
use Rattle.cb_wp.specs.declared.limits.MakeFault.{MakeFault}
use Rattle.cb_wp.specs.declared.limits.Used.{Used}
use Rattle.cb_conditions.specs.Reading.{read}
use Rattle.cb_conditions.specs.Ways.{Way}
use Rattle.cb_symbolic.specs.declared.walk.Walk.{Walk}
use Rattle.cb_symbolic.specs.declared.walk.Reached.{Reached}
use Rattle.cb_symbolic.specs.declared.walk.Mark.{Mark}
use Rattle.cb_symbolic.specs.Cuts.{conjuncts_read}
use Rattle.cb_symbolic.specs.Stores.{meaning_of, read_opened}

-- the way that a walk is on, where so much is reached
abbrev pub way_of : Reached → Walk → Way
way_of r w = record { number = r.number; names = w.names; hypotheses = w.hypotheses; store = meaning_of w.store }

-- the nodes that are reached are those of the hypotheses
abbrev pub IsReached : Reached → Walk → Type 0
IsReached r w = r.nodes ≡ min (formulas_nodes w.hypotheses) (2 ^ 64 - 1)

-- the hypotheses with the conjuncts of the formula, as it is read with these opened names
abbrev pub hypotheses_with : List Name → Walk → FormulaTree → List FormulaTree
hypotheses_with ys w f = w.hypotheses ++ conjuncts_read (meaning_of w.store) ys f

-- what is met where the formula is shown, as it is read here with these opened names, and its sequents
abbrev pub steps_inside : List Name → Reached → Walk → FormulaTree → List Step
steps_inside ys r w f = steps_under ys r.number w.names w.hypotheses (read (meaning_of w.store) f)

abbrev pub pieces_inside : List Name → Reached → Walk → FormulaTree → List Claim
pieces_inside ys r w f = pieces_under ys r.number w.names w.hypotheses (read (meaning_of w.store) f)

-- the sequent with the formula as its goal
abbrev pub claim_inside : List Name → Walk → FormulaTree → Claim
claim_inside ys w f = claim w.names w.hypotheses (read_opened (meaning_of w.store) ys f)

-- how long the walk's lists are
abbrev pub mark_of : Walk → Mark
mark_of w = record { store = length w.store; names = length w.names; hypotheses = length w.hypotheses }

abbrev pub cut_at : Mark → Walk → Walk
cut_at m w = record { store = take m.store w.store; names = take m.names w.names; hypotheses = take m.hypotheses w.hypotheses }

-- the later walk is the earlier one with more at its ends
abbrev pub Extends : (later earlier : Walk) → Type 0
Extends later earlier = cut_at (mark_of earlier) later ≡ earlier

-- the step passes no limit, whatever is counted before it and after it
abbrev pub Passes : Step → Type 0
Passes s = (o n : ℕ) (steps : List Step) → count o n (s ∷ steps) ≡ count o n steps

-- the fault is that of the step, whatever is counted before it and after it
abbrev pub Stops : MakeFault → Step → Type 0
Stops e s = (u : Used) (steps : List Step) → Faulted e u (s ∷ steps)
