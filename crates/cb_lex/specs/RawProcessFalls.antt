-- Each child of a process has fewer nodes than the process.
use Rattle.std.specs.Prelude.{◌+◌, ◌≤◌, max, List, [], ◌∷◌}
use Rattle.std.proofs.Common.{arith}
use denote.Param.Weighed.{most}
use Rattle.cb_lex.specs.RawProcessTree.{RawProcessTree, raw_processes, process_nodes, processes_nodes}
use Rattle.cb_lex.specs.RawProcessView.{process_of}
use Rattle.cb_lex.specs.declared.raw.process.RawProcessNode.{RawProcessNode}
use Rattle.cb_lex.specs.declared.raw.process.RawProcessNode.TheVariants.{Stop, Skip, Call, If, Prefix, External, Internal}
use Rattle.cb_lex.specs.declared.raw.process.RawProcess.TheDeep.{deep-RawProcessNode}

most_le-processes_nodes : (ps : List RawProcessTree) → most (λ p. process_nodes p + 1) ps ≤ processes_nodes (raw_processes ps) + 1
most_le-processes_nodes [] = omega arith
most_le-processes_nodes (p ∷ ps) = omega (arith, most_le-processes_nodes ps)

pub process_falls : (n : RawProcessNode) → max (deep-RawProcessNode n) 0 ≤ process_nodes (process_of n)
process_falls (Stop q) = omega arith
process_falls (Skip q) = omega arith
process_falls (Call c) = omega arith
process_falls (If q f a b) = omega arith
process_falls (Prefix e a) = omega arith
process_falls (External ps) = omega (arith, most_le-processes_nodes ps)
process_falls (Internal ps) = omega (arith, most_le-processes_nodes ps)
