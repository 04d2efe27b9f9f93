use Rattle.std.proofs.Common.{◌≡◌, ◌++◌, drop}
use Rattle.cb_text_laws.specs.NormalProcesses.{arguments_in}
use Rattle.cb_systems.proofs.parts.normal_terms.Given as goal

abbrev pub invariant-loop-term : goal.invariant-loop-term
invariant-loop-term l =
    (l.all ++ arguments_in l.view l.fn.names (drop l.term-index l.terms) ≡ arguments_in l.view l.fn.names l.terms)
    × (l.names ≡ l.fn.names)
