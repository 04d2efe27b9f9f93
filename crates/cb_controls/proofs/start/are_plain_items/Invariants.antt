use Rattle.std.proofs.Common.{◌≡◌, drop}
use Rattle.cb_lex.specs.RawTermTree.{raw_terms}
use Rattle.cb_text_laws.specs.ControllerFaults.{are_plain_items}
use Rattle.cb_controls.proofs.start.are_plain_items.Given as goal

abbrev pub invariant-loop-term : goal.invariant-loop-term
invariant-loop-term l = are_plain_items l.names (raw_terms (drop l.term-index l.terms)) ≡ are_plain_items l.names (raw_terms l.terms)
