use Rattle.std.proofs.Common.{◌≡◌, ◌++◌, drop, true}
use Rattle.cb_text_print.specs.Texts.{each_parameter_text}
use Rattle.cb_text_print.proofs.controllers.put_each_parameter.Given as goal

abbrev pub invariant-loop-parameter : goal.invariant-loop-parameter
invariant-loop-parameter l = l.out.items ++ each_parameter_text l.first (drop l.parameter-index l.parameters) ≡ l.initial.out.items ++ each_parameter_text true l.parameters
