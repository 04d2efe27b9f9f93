use Rattle.std.specs.Prelude.{◌≡◌, take}
use Rattle.cb_run_text.specs.Traces.{kinds_of}
use Rattle.cb_run_text.proofs.values.kinds_of.Given as goal

abbrev pub invariant-loop-one : goal.invariant-loop-one
invariant-loop-one l = l.kinds ≡ kinds_of (take l.one-index l.declared)
