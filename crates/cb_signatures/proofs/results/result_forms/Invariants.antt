use Rattle.std.proofs.Common.{◌≡◌, ◌++◌, drop}
use Rattle.cb_signatures.specs.Kept.{formed, results_of}
use Rattle.cb_signatures.proofs.results.result_forms.Given as goal

abbrev pub invariant-loop-name : goal.invariant-loop-name
invariant-loop-name l = l.forms ++ results_of (formed l.given) (drop l.name-index l.names) ≡ results_of (formed l.given) l.names
