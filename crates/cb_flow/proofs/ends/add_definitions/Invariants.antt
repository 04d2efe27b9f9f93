use Rattle.std.proofs.Common.{◌≡◌, drop}
use Rattle.cb_flow.specs.Uses.{definitions_uses}
use Rattle.cb_flow.proofs.ends.add_definitions.Given as goal

abbrev pub invariant-loop-definition : goal.invariant-loop-definition
invariant-loop-definition l =
    definitions_uses l.names l.side l.controller (drop l.definition-index l.definitions) l.all.items ≡ definitions_uses l.names l.side l.controller l.definitions l.fn.all.items
