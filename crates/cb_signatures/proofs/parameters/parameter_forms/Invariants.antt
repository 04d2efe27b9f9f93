use Rattle.std.proofs.Common.{◌≡◌, ◌++◌, drop}
use Rattle.cb_text_laws.specs.Signatures.{forms_of}
use Rattle.cb_signatures.proofs.parameters.parameter_forms.Given as goal

abbrev pub invariant-loop-name : goal.invariant-loop-name
invariant-loop-name l = l.forms ++ forms_of l.domains (drop l.name-index l.names) ≡ forms_of l.domains l.names
