-- The limits of a list of obligations, and the first that is passed.
use Rattle.std.specs.Prelude.{ℕ, ◌≡◌, ◌+◌, ltb, leb, Bool, true, ◌&&◌, List, [], ◌∷◌, ◌++◌, flat_map, Option, Some, None, if◌then◌else◌, ⊤}
use Rattle.cb_term.specs.declared.name.Name.{Name}
use Rattle.cb_term.specs.declared.kind.Kind.{Kind}
use Rattle.cb_term.specs.Tree.{FormulaTree}
use Rattle.cb_term.specs.Size.{term_nodes, formula_nodes}
use Rattle.cb_seq.specs.Validity.{Claim}
use Rattle.cb_spec.specs.declared.system.Machine.{Machine}
use Rattle.cb_spec.specs.declared.system.Operation.{Operation}
use Rattle.cb_spec.specs.SubstTree.{SubstTree}
use Rattle.cb_obligations.specs.Counts.{branch_count}
use Rattle.cb_obligations.specs.Transform.{transformed, live}
use Rattle.cb_obligations.specs.Steps.{Step, Reach, Weigh, Make, steps_under}
use Rattle.cb_obligations.specs.Owed.{with_kinds, of_operation}
use Rattle.cb_wp.specs.declared.limits.Which.{Which}
use Rattle.cb_wp.specs.declared.limits.Which.TheVariants as which
use Rattle.cb_wp.specs.declared.limits.MakeFault.{MakeFault}
use Rattle.cb_wp.specs.declared.limits.MakeFault.TheVariants as fault
use Rattle.cb_wp.specs.declared.limits.Used.{Used}

-- the fault is the first limit, or want of memory
abbrev pub Tells : MakeFault → Option Which → Type 0
Tells (fault.Limit w) first = first ≡ Some w
Tells fault.Memory first = ⊤

abbrev pub branch_limit : SubstTree → Option Which
branch_limit s = if ltb 256 (branch_count s) then Some which.Branches else None

abbrev pub claim : List (Name × Kind) → List FormulaTree → FormulaTree → Claim
claim names hyps goal = record { names = names; hypotheses = hyps; goal = goal }

-- ---- counting

abbrev pub formulas_nodes : List FormulaTree → ℕ
formulas_nodes [] = 0
formulas_nodes (f ∷ fs) = formula_nodes f + formulas_nodes fs

abbrev pub claim_nodes : Claim → ℕ
claim_nodes q = formulas_nodes q.hypotheses + formula_nodes q.goal

-- how far the count comes: to a limit, or to the end with so many obligations and nodes
pub data Count : Type 0 where
  Passed : Which → Count
  At : ℕ → ℕ → Count

abbrev pub count : ℕ → ℕ → List Step → Count
count o n [] = At o n
count o n (Reach hyps ∷ steps) = if ltb 20000 (formulas_nodes hyps) then Passed which.Sequent else count o n steps
count o n (Weigh t ∷ steps) = if ltb 20000 (term_nodes t) then Passed which.Sequent else count o n steps
count o n (Make q ∷ steps) =
    if leb 4096 o then Passed which.Obligations
    else (if ltb 20000 (claim_nodes q) then Passed which.Sequent
    else (if ltb 4000000 (n + claim_nodes q) then Passed which.Nodes
    else count (o + 1) (n + claim_nodes q) steps))

-- through these steps, counted on from `u`, no limit is passed, and it comes to `w`
abbrev pub Counted : Used → Used → List Step → Type 0
Counted u w steps = count u.obligations u.nodes steps ≡ At w.obligations w.nodes

-- the fault is the first limit that is passed through these steps, or want of memory
abbrev pub Faulted : MakeFault → Used → List Step → Type 0
Faulted (fault.Limit w) u steps = count u.obligations u.nodes steps ≡ Passed w
Faulted fault.Memory u steps = ⊤

-- the limit that the count comes to
abbrev pub passed : Count → Option Which
passed (Passed w) = Some w
passed (At o n) = None

-- ---- a machine's list, in order

unfoldable pub formula_steps : Machine → FormulaTree → List Step
formula_steps m f = steps_under [] 0 (with_kinds m.variables) [] f

abbrev pub init_steps : Machine → List Step
init_steps m = formula_steps m (transformed m.init m.invariant) ++ formula_steps m (live m.init)

abbrev pub operation_steps : Machine → Operation → List Step
operation_steps m o =
    formula_steps m (of_operation m.invariant o (transformed o.body m.invariant)) ++ formula_steps m (of_operation m.invariant o (live o.body))

abbrev pub machine_steps : Machine → List Step
machine_steps m = init_steps m ++ flat_map (λ (o : Operation). operation_steps m o) m.operations

-- no body has more than 256 branches
abbrev pub bodies_within : List Operation → Bool
bodies_within [] = true
bodies_within (o ∷ os) = leb (branch_count o.body) 256 && bodies_within os

abbrev pub branches_within : Machine → Bool
branches_within m = leb (branch_count m.init) 256 && bodies_within m.operations

-- branches come before all else
abbrev pub first_limit : Used → Machine → Option Which
first_limit u m = if branches_within m then passed (count u.obligations u.nodes (machine_steps m)) else Some which.Branches
