use Rattle.std.proofs.Common.{drop}
use Rattle.cb_text_laws.specs.Signatures.{definitions_from}
use Rattle.cb_controls.proofs.Kept.{Keeps}
use Rattle.cb_controls.proofs.definition.definitions_of.Given as goal

abbrev pub invariant-loop-definition : goal.invariant-loop-definition
invariant-loop-definition l = Keeps l.forms l.heads (definitions_from l.view l.names l.number (drop l.definition-index l.definitions)) (definitions_from l.view l.names 0 l.definitions)
