use Rattle.std.proofs.Common.{◌≡◌, [], drop, map}
use Rattle.cb_forms.specs.Faults.{least, first}
use Rattle.cb_text_laws.specs.Signatures.{param_name}
use Rattle.cb_types.specs.declared.declare.Sort.TheVariants as sort
use Rattle.cb_types.specs.Declares.{declared, declare_fault}
use Rattle.cb_controls.proofs.parameters.declare_params.Given as goal

abbrev pub invariant-loop-param : goal.invariant-loop-param
invariant-loop-param l =
    (declared sort.Parameter [] l.domains 0 l.names (map param_name (drop l.param-index l.params)) ≡ declared sort.Parameter [] l.domains 0 l.fn.names (map param_name l.params))
    × (least l.fault (first (declare_fault sort.Parameter [] l.domains 0 l.names (map param_name (drop l.param-index l.params)))) ≡ first (declare_fault sort.Parameter [] l.domains 0 l.fn.names (map param_name l.params)))
