use Rattle.std.proofs.Common.{◌≡◌, map, take}
use Rattle.cb_spec.specs.Stores.{look_of}
use Rattle.cb_spec.specs.Bound.{result_names}
use Rattle.cb_settling.proofs.call.results_in.Given as goal

abbrev pub invariant-loop-result : goal.invariant-loop-result
invariant-loop-result l = l.values ≡ map (look_of l.written) (result_names (take l.result-index l.result-items))
