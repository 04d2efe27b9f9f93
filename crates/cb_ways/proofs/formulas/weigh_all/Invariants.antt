use Rattle.std.proofs.Common.{◌≡◌, drop}
use Rattle.cb_wp.specs.Limits.{count}
use Rattle.cb_conditions.specs.Steps.{weigh_each}
use Rattle.cb_symbolic.specs.Stores.{meaning_of}
use Rattle.cb_ways.proofs.formulas.weigh_all.Given as goal

abbrev pub invariant-loop-write : goal.invariant-loop-write
invariant-loop-write l =
    count l.used.obligations l.used.nodes (weigh_each (meaning_of l.walk.store) (drop l.write-index l.writes))
    ≡ count l.used.obligations l.used.nodes (weigh_each (meaning_of l.walk.store) l.writes)
