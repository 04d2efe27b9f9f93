use Rattle.std.proofs.Common.{◌≡◌, ◌++◌, drop, map}
use Rattle.cb_text_laws.specs.Signatures.{forms_of, param_name}
use Rattle.cb_controls.proofs.parameters.forms_in.Given as goal

abbrev pub invariant-loop-param : goal.invariant-loop-param
invariant-loop-param l = l.forms ++ forms_of l.domains (map param_name (drop l.param-index l.params)) ≡ forms_of l.domains (map param_name l.params)
