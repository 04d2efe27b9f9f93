-- Each part of a process has fewer nodes than the whole.
use Rattle.std.specs.Prelude.{◌≤◌, max}
use Rattle.std.proofs.Common.{arith}
use Rattle.cb_spec.specs.ProcessSize.{process_nodes}
use Rattle.cb_spec.specs.ProcessView.{process_of}
use Rattle.cb_spec.specs.declared.process.ProcessNode.{ProcessNode}
use Rattle.cb_spec.specs.declared.process.ProcessNode.TheVariants.{Stop, Skip, Call, Prefix, Choice, Internal, If}
use Rattle.cb_spec.specs.declared.process.Process.TheDeep.{deep-ProcessNode}

pub process_falls : (n : ProcessNode) → max (deep-ProcessNode n) 0 ≤ process_nodes (process_of n)
process_falls Stop = omega arith
process_falls Skip = omega arith
process_falls (Call k ts) = omega arith
process_falls (Prefix e p) = omega arith
process_falls (Choice p q) = omega arith
process_falls (Internal p q) = omega arith
process_falls (If f p q) = omega arith
