-- The machines of a controller, one after another, and the way through one branch of their beginnings.
use Rattle.std.specs.Prelude.{ℕ, List, [], ◌∷◌, ◌++◌, flat_map, Option, Some, None}
use Rattle.cb_seq.specs.Validity.{Claim}
use Rattle.cb_spec.specs.declared.system.Controller.{Controller}
use Rattle.cb_spec.specs.declared.system.Declared.{Declared}
use Rattle.cb_spec.specs.declared.system.Machine.{Machine}
use Rattle.cb_spec.specs.declared.system.System.{System}
use Rattle.cb_spec.specs.ProcessTree.{Call}
use Rattle.cb_obligations.specs.Branches.{Branch}
use Rattle.cb_obligations.specs.Counts.{branch_count}
use Rattle.cb_obligations.specs.Steps.{Step, Reach}
use Rattle.cb_conditions.specs.Conditions.{own_names}
use Rattle.cb_conditions.specs.Steps.{inside_steps, way_steps, start_way}
use Rattle.cb_conditions.specs.Ways.{Way, at_first, supposing, ways}

-- the variables of a machine that is there
abbrev pub own_variables : Option Machine → List Declared
own_variables None = []
own_variables (Some m) = m.variables

-- how many branches its initialisation has; one that is not there is as one that does nothing
abbrev pub own_branches : Option Machine → ℕ
own_branches None = 1
own_branches (Some m) = branch_count m.init

-- under its invariant
abbrev pub own_supposed : Way → Option Machine → Way
own_supposed w None = w
own_supposed w (Some m) = supposing w m.invariant

-- what is met in a branch of the beginnings, and in the controller's first process after it
abbrev pub beginning_steps : System → Controller → Branch → List Step
beginning_steps y c b =
    inside_steps (at_first (own_names y c)) b.items ++ Reach (start_way y c b).hypotheses ∷ way_steps y c (Call c.start c.start_args) (start_way y c b)

abbrev pub beginning_ways : System → Controller → Branch → List Claim
beginning_ways y c b = ways y c (Call c.start c.start_args) (start_way y c b)

-- and so in each
abbrev pub beginnings_steps : System → Controller → List Branch → List Step
beginnings_steps y c bs = flat_map (λ (b : Branch). beginning_steps y c b) bs

abbrev pub beginnings_ways : System → Controller → List Branch → List Claim
beginnings_ways y c bs = flat_map (λ (b : Branch). beginning_ways y c b) bs
