-- The parts of groups and of the whole list, and limits with what comes after them.
use Rattle.std.specs.Prelude.{ltb, not, ◌&&◌, List, ◌++◌, flat_map, length, Option, Some, if◌then◌else◌}
use Rattle.cb_seq.specs.Validity.{Claim}
use Rattle.cb_spec.specs.declared.system.Controller.{Controller}
use Rattle.cb_spec.specs.declared.system.Definition.{Definition}
use Rattle.cb_spec.specs.declared.system.System.{System}
use Rattle.cb_obligations.specs.Owed.{Owed}
use Rattle.cb_obligations.specs.Steps.{Step}
use Rattle.cb_wp.specs.declared.limits.Which.{Which}
use Rattle.cb_wp.specs.declared.limits.Which.TheVariants as which
use Rattle.cb_conditions.specs.Conditions.{own_names, known, loop_owes, match_owes}
use Rattle.cb_conditions.specs.Steps.{loop_steps, match_steps, calls_within}
use Rattle.cb_conditions.specs.Ways.{at_first, opening_each, supposing, ways}
use Rattle.cb_owed.specs.Limits.{controller_steps, body_within, machines_within, starts_within, controllers_within}

-- the sequents of a definition, as the walk makes them
abbrev pub loop_ways : System → Controller → Definition → List Claim
loop_ways y c d = ways y c d.body (supposing (opening_each (at_first (own_names y c)) d.params) (known y c d))

-- ---- the whole list

abbrev pub definition_owes : System → Controller → Definition → List Owed
definition_owes y c d = loop_owes y c d ++ match_owes y c d

abbrev pub definition_steps : System → Controller → Definition → List Step
definition_steps y c d = loop_steps y c d ++ match_steps y d

abbrev pub controllers_steps : System → List Controller → List Step
controllers_steps y cs = flat_map (λ (c : Controller). controller_steps y c) cs

-- the limits of a body that come before those of counting
abbrev pub body_limit : System → Definition → Option Which → Option Which
body_limit y d rest =
    if not (calls_within y d.body) then Some which.Branches else
    (if not (body_within y d) then Some which.Visits else rest)

-- and those of a system
abbrev pub system_limit : System → Option Which → Option Which
system_limit y rest =
    if ltb 64 (length y.controllers) then Some which.Controllers else
    (if not (machines_within y.machines && starts_within y y.controllers) then Some which.Branches else
    (if not (controllers_within y y.controllers) then Some which.Visits else rest))
