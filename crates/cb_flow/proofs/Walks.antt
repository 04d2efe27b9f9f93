-- Operands in lists.
use native.Mathlib.Numerals.{unary_clauses}
use Rattle.std.proofs.Common.{◌≡◌, ℕ, ◌<◌, ◌≤◌, zero, suc, List, [], ◌∷◌, arith, refl, ap, Option, Some, None, length, drop, get_or, ◌+◌, ◌∙◌}
use Rattle.cb_lex.specs.RawProcessTree.{RawProcessTree, External, Internal, RawProcesses, NoOperand, Operand, raw_processes, process_nodes, processes_nodes}
use Rattle.cb_text_laws.specs.SilentFaults.{Costs, cost_or_none, cost, most, chained, costs_of}
use Rattle.cb_lex.specs.declared.raw.text.RawDefinition.{RawDefinition}
use Rattle.cb_forms.specs.Find.{inside}
use Rattle.cb_term.proofs.Steps.{drop_step}
use Rattle.cb_flow.specs.Chains.{linked}

-- an operand has no more nodes than all
pub operand_nodes : (ps : List RawProcessTree) (i : ℕ) (p : RawProcessTree) → i < length ps → p ≡ get_or ps i p → process_nodes p ≤ processes_nodes (raw_processes ps)
operand_nodes [] i p lt is = absurd (omega (arith, lt))
operand_nodes (x ∷ xs) zero p lt is = omega (arith, ap process_nodes is)
operand_nodes (x ∷ xs) (suc i) p lt is = omega (arith, operand_nodes xs i p (omega (arith, lt)) is)

-- the most of operands is counted from nothing
pub most_of : (costs : Costs) (ps : List RawProcessTree) → most costs 0 (raw_processes ps) ≡ cost costs (External (raw_processes ps))
most_of costs [] = refl
most_of costs (p ∷ ps) = simp unary_clauses refl

-- the choices of a chain whose first operands are counted already
abbrev pub chained_from : Costs → Option ℕ → RawProcesses → ℕ
chained_from costs None ps = cost costs (Internal ps)
chained_from costs (Some n) ps = chained costs n ps

pub chained_step : (costs : Costs) (o : Option ℕ) (p : RawProcessTree) (ps : RawProcesses) → chained_from costs (Some (linked o (cost costs p))) ps ≡ chained_from costs o (Operand p ps)
chained_step costs None p ps = refl
chained_step costs (Some n) p ps = refl

pub chained_end : (costs : Costs) (o : Option ℕ) → cost_or_none o ≡ chained_from costs o NoOperand
chained_end costs None = refl
chained_end costs (Some n) = refl

-- the costs with those of the definition before
pub costs_step : (ds : List RawDefinition) (i : ℕ) (d : RawDefinition) (costs : Costs) → i < length ds → d ≡ get_or ds i d → costs_of (drop (i + 1) ds) ≡ costs →
    costs_of (drop i ds) ≡ inside d.name.text (cost costs d.process) costs
costs_step ds i d costs lt is so_far =
    ap costs_of (drop_step ds i d lt is) ∙ ap (λ (cs : Costs). inside d.name.text (cost cs d.process) cs) so_far
