-- What operations that are called may be: their numbers of branches, and the way through one branch.
use Rattle.std.specs.Prelude.{ℕ, min, leb, Bool, true, Option, Some, None, slice_get, List, [], ◌∷◌, ◌++◌, map, flat_map, take}
use Rattle.cb_term.specs.declared.name.Name.{Name}
use Rattle.cb_term.specs.Tree.{TermTree, FormulaTree}
use Rattle.cb_seq.specs.Validity.{Claim}
use Rattle.cb_spec.specs.declared.event.Event.{Event}
use Rattle.cb_spec.specs.declared.event.Event.TheVariants as event
use Rattle.cb_spec.specs.declared.system.Controller.{Controller}
use Rattle.cb_spec.specs.declared.system.Machine.{Machine}
use Rattle.cb_spec.specs.declared.system.Operation.{Operation}
use Rattle.cb_spec.specs.declared.system.System.{System}
use Rattle.cb_spec.specs.ProcessTree.{ProcessTree}
use Rattle.cb_spec.specs.Bound.{names, result_names}
use Rattle.cb_obligations.specs.Branches.{Assigned, Branch, branches}
use Rattle.cb_obligations.specs.Counts.{branch_count}
use Rattle.cb_obligations.specs.Steps.{Step, Reach}
use Rattle.cb_conditions.specs.Reading.{Meaning, terms_at, given_each}
use Rattle.cb_conditions.specs.Conditions.{guarantee, outcome}
use Rattle.cb_conditions.specs.Steps.{shown_steps, inside_steps, weigh_each, steps_on, way_steps, at_operation}
use Rattle.cb_conditions.specs.Ways.{Way, shown, written, supposing, inside, leaving, on_found, ways}
use Rattle.cb_symbolic.specs.declared.walk.Walk.{Walk}

-- how many branches each operation of a machine has, none above 257
abbrev pub machine_counts : Machine → List ℕ
machine_counts m = map (λ (o : Operation). min (branch_count o.body) 257) m.operations

-- how many branches each operation of each machine has, none above 257
abbrev pub counts_of : System → List (List ℕ)
counts_of y = map machine_counts y.machines

abbrev pub get_at : Option (List ℕ) → ℕ → Option ℕ
get_at None j = None
get_at (Some ns) j = slice_get ns j

-- the number at these places
abbrev pub count_at : List (List ℕ) → ℕ → ℕ → Option ℕ
count_at counts k j = get_at (slice_get counts k) j

-- whether the operation that the event calls, if it calls one, has no more than 256 branches
abbrev pub event_within : System → Event → Bool
event_within y (event.Output k ts f) = true
event_within y (event.Input k xs f) = true
event_within y (event.Call k j ts xs) = at_operation (slice_get y.machines k) j true (λ (o : Operation). leb (branch_count o.body) 256)

-- how many ways go on behind the event
abbrev pub ways_behind : System → Event → ℕ
ways_behind y (event.Output k ts f) = 1
ways_behind y (event.Input k xs f) = 1
ways_behind y (event.Call k j ts xs) = at_operation (slice_get y.machines k) j 0 (λ (o : Operation). branch_count o.body)

-- what is owed at an output, and what is met there
abbrev pub sent : System → ℕ → List TermTree → Option FormulaTree → Way → List Claim
sent y k ts f w = on_found w (slice_get y.channels k) (λ ch. shown (written w (terms_at (names ch.values) ts)) (guarantee ch f))

abbrev pub sent_steps : System → ℕ → List TermTree → Option FormulaTree → Way → List Step
sent_steps y k ts f w = steps_on w (slice_get y.channels k) (λ ch. shown_steps (written w (terms_at (names ch.values) ts)) (guarantee ch f))

-- after a branch of the operation, inside which the arguments stand in w; outside of it names stand for what they do in s
abbrev pub branch_way : Machine → Operation → List Name → Meaning → Way → Branch → Way
branch_way m o xs s w b = supposing (leaving s (outcome m o xs b.writes) (inside w b.items)) m.invariant

-- what is weighed in the branch: the results that the names get
abbrev pub result_steps : Operation → List Name → Way → Branch → List Step
result_steps o xs w b = weigh_each (inside w b.items).store (terms_at xs (given_each b.writes (result_names o.results)))

-- what is met in the branch
abbrev pub entry_steps : Machine → Operation → List Name → Meaning → Way → Branch → List Step
entry_steps m o xs s w b = inside_steps w b.items ++ (result_steps o xs w b ++ Reach (branch_way m o xs s w b).hypotheses ∷ [])

-- what is met in the branch, and in the process after it
abbrev pub branch_steps : System → Controller → Machine → Operation → List Name → ProcessTree → Meaning → Way → Branch → List Step
branch_steps y c m o xs p s w b =
    inside_steps w b.items ++ (weigh_each (inside w b.items).store (terms_at xs (given_each b.writes (result_names o.results)))
    ++ Reach (branch_way m o xs s w b).hypotheses ∷ way_steps y c p (branch_way m o xs s w b))

-- what is owed at a call of the operation and after it, and what is met there
abbrev pub call_ways : System → Controller → Machine → Operation → List TermTree → List Name → ProcessTree → Way → List Claim
call_ways y c m o ts xs p w =
    let i = written w (terms_at (names o.params) ts) in
    shown i o.pre ++ flat_map (λ (b : Branch). ways y c p (branch_way m o xs w.store i b)) (branches o.body)

abbrev pub call_steps : System → Controller → Machine → Operation → List TermTree → List Name → ProcessTree → Way → List Step
call_steps y c m o ts xs p w =
    let i = written w (terms_at (names o.params) ts) in
    shown_steps i o.pre ++ flat_map (branch_steps y c m o xs p w.store i) (branches o.body)

-- the machine's operation at the place, with the machine
abbrev pub beside : {A B : Type 0} → A → Option B → Option (A × B)
beside a None = None
beside a (Some b) = Some (a, b)

abbrev pub operation_of : Option Machine → ℕ → Option (Machine × Operation)
operation_of None j = None
operation_of (Some m) j = beside m (slice_get m.operations j)

-- the walk with these entries behind the first ones of its store
abbrev pub put_back : ℕ → Assigned → Walk → Walk
put_back outer part w = record { store = take outer w.store ++ part; names = w.names; hypotheses = w.hypotheses }
