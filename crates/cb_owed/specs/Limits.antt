-- The limits of what controllers and whole systems owe, and the first that is passed.
use Rattle.std.specs.Prelude.{ltb, leb, Bool, true, ◌&&◌, not, List, [], ◌∷◌, ◌++◌, flat_map, length, Option, Some, if◌then◌else◌}
use Rattle.cb_spec.specs.declared.system.Controller.{Controller}
use Rattle.cb_spec.specs.declared.system.Definition.{Definition}
use Rattle.cb_spec.specs.declared.system.Machine.{Machine}
use Rattle.cb_spec.specs.declared.system.System.{System}
use Rattle.cb_obligations.specs.Counts.{branch_count}
use Rattle.cb_obligations.specs.Steps.{Step}
use Rattle.cb_wp.specs.declared.limits.Used.{Used}
use Rattle.cb_wp.specs.declared.limits.Which.{Which}
use Rattle.cb_wp.specs.declared.limits.Which.TheVariants as which
use Rattle.cb_wp.specs.Limits.{count, passed, machine_steps}
use Rattle.cb_wp.specs.Limits as machine
use Rattle.cb_conditions.specs.Conditions.{machines_of, beginnings}
use Rattle.cb_conditions.specs.Steps.{start_steps, loop_steps, match_steps, visits, calls_within}

-- ---- one group

abbrev pub start_within : System → Controller → Bool
start_within y c = leb (branch_count (beginnings (machines_of y c))) 256

abbrev pub start_limit : Used → System → Controller → Option Which
start_limit u y c = if start_within y c then passed (count u.obligations u.nodes (start_steps y c)) else Some which.Branches

-- the body's walk visits no more than 65,536 process nodes
abbrev pub body_within : System → Definition → Bool
body_within y d = leb (visits y d.body) 65536

-- branches come before visits, and these before all else
abbrev pub loop_limit : Used → System → Controller → Definition → Option Which
loop_limit u y c d =
    if not (calls_within y d.body) then Some which.Branches else
    (if not (body_within y d) then Some which.Visits else passed (count u.obligations u.nodes (loop_steps y c d)))

abbrev pub match_limit : Used → System → Definition → Option Which
match_limit u y d = passed (count u.obligations u.nodes (match_steps y d))

-- ---- the whole list

abbrev pub machines_within : List Machine → Bool
machines_within [] = true
machines_within (m ∷ ms) = machine.branches_within m && machines_within ms

abbrev pub starts_within : System → List Controller → Bool
starts_within y [] = true
starts_within y (c ∷ cs) = start_within y c && starts_within y cs

abbrev pub bodies_within : System → List Definition → Bool
bodies_within y [] = true
bodies_within y (d ∷ ds) = body_within y d && bodies_within y ds

abbrev pub controllers_within : System → List Controller → Bool
controllers_within y [] = true
controllers_within y (c ∷ cs) = bodies_within y c.definitions && controllers_within y cs

abbrev pub definitions_steps : System → Controller → List Definition → List Step
definitions_steps y c ds = flat_map (λ (d : Definition). loop_steps y c d ++ match_steps y d) ds

abbrev pub controller_steps : System → Controller → List Step
controller_steps y c = start_steps y c ++ definitions_steps y c c.definitions

abbrev pub system_steps : System → List Step
system_steps y = flat_map machine_steps y.machines ++ flat_map (λ (c : Controller). controller_steps y c) y.controllers

-- controllers come before branches, these before visits, and these before all else
abbrev pub first_limit : System → Option Which
first_limit y =
    if ltb 64 (length y.controllers) then Some which.Controllers else
    (if not (machines_within y.machines && starts_within y y.controllers) then Some which.Branches else
    (if not (controllers_within y y.controllers) then Some which.Visits else passed (count 0 0 (system_steps y))))
