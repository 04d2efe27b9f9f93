-- An operand has no more nodes than all operands.
use Rattle.std.proofs.Common.{◌≡◌, ℕ, zero, suc, ◌<◌, ◌≤◌, List, [], ◌∷◌, length, ap, arith}
use Rattle.std.specs.Prelude.{get_or}
use Rattle.cb_lex.specs.RawProcessTree.{RawProcessTree, raw_processes, process_nodes, processes_nodes}

pub operand_nodes : (ps : List RawProcessTree) (i : ℕ) (p : RawProcessTree) → i < length ps → p ≡ get_or ps i p → process_nodes p ≤ processes_nodes (raw_processes ps)
operand_nodes [] i p lt is = absurd (omega (arith, lt))
operand_nodes (x ∷ xs) zero p lt is = omega (arith, ap process_nodes is)
operand_nodes (x ∷ xs) (suc i) p lt is = omega (arith, operand_nodes xs i p (omega (arith, lt)) is)
