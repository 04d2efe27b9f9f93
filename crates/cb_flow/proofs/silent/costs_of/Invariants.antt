use Rattle.std.proofs.Common.{◌≡◌, drop}
use Rattle.cb_text_laws.specs.SilentFaults.{costs_of}
use Rattle.cb_flow.proofs.silent.costs_of.Given as goal

abbrev pub invariant-loop-i : goal.invariant-loop-i
invariant-loop-i l = costs_of (drop l.i l.definitions) ≡ l.costs
