use Rattle.std.proofs.Common.{◌≡◌, ◌++◌, drop, true}
use Rattle.cb_text_print.specs.Texts.{definitions_text}
use Rattle.cb_text_print.proofs.controllers.put_definitions.Given as goal

abbrev pub invariant-loop-definition : goal.invariant-loop-definition
invariant-loop-definition l = l.out.items ++ definitions_text l.first (drop l.definition-index l.definitions) ≡ l.initial.out.items ++ definitions_text true l.definitions
