-- Controllers without a short chain have chains of two operands or more.
use Rattle.std.proofs.Common.{◌≡◌, ℕ, ◌+◌, List, [], ◌∷◌, arith}
use Rattle.cb_lex.specs.declared.raw.text.RawController.{RawController}
use Rattle.cb_lex.specs.declared.raw.text.RawDefinition.{RawDefinition}
use Rattle.cb_lex.specs.RawProcessTree.{RawProcessTree, RawProcesses}
use Rattle.cb_lex.specs.RawProcessTree as tree
use Rattle.cb_csp_parse.proofs.TextsAgain.{short, process_shorts, operand_shorts, definition_shorts, controller_shorts}
use Rattle.cb_shapes.specs.Full.{AllOf}
use Rattle.cb_text_shapes.specs.Whole.{HasTwo, IsChained, AreChained}

left : (a b : ℕ) → a + b ≡ 0 → a ≡ 0
left a b e = omega (arith, e)

right : (a b : ℕ) → a + b ≡ 0 → b ≡ 0
right a b e = omega (arith, e)

has_two : (ps : RawProcesses) → short ps ≡ 0 → HasTwo ps
has_two tree.NoOperand e = absurd (omega (arith, e))
has_two (tree.Operand p tree.NoOperand) e = absurd (omega (arith, e))
has_two (tree.Operand p (tree.Operand q ps)) e = tt

mutual
  chained : (p : RawProcessTree) → process_shorts p ≡ 0 → IsChained p
  chained (tree.Stop p) e = tt
  chained (tree.Skip p) e = tt
  chained (tree.Call c) e = tt
  chained (tree.If p f a b) e = (chained a (left (process_shorts a) (process_shorts b) e), chained b (right (process_shorts a) (process_shorts b) e))
  chained (tree.Prefix v a) e = chained a e
  chained (tree.External ps) e = (has_two ps (left (short ps) (operand_shorts ps) e), all_chained ps (right (short ps) (operand_shorts ps) e))
  chained (tree.Internal ps) e = (has_two ps (left (short ps) (operand_shorts ps) e), all_chained ps (right (short ps) (operand_shorts ps) e))

  all_chained : (ps : RawProcesses) → operand_shorts ps ≡ 0 → AreChained ps
  all_chained tree.NoOperand e = tt
  all_chained (tree.Operand p ps) e = (chained p (left (process_shorts p) (operand_shorts ps) e), all_chained ps (right (process_shorts p) (operand_shorts ps) e))

definitions_chained : (ds : List RawDefinition) → definition_shorts ds ≡ 0 → AllOf (λ d. IsChained d.process) ds
definitions_chained [] e = tt
definitions_chained (d ∷ ds) e = (chained d.process (left (process_shorts d.process) (definition_shorts ds) e), definitions_chained ds (right (process_shorts d.process) (definition_shorts ds) e))

pub controllers_chained : (cs : List RawController) → controller_shorts cs ≡ 0 → AllOf (λ c. AllOf (λ d. IsChained d.process) c.definitions) cs
controllers_chained [] e = tt
controllers_chained (c ∷ cs) e = (definitions_chained c.definitions (left (definition_shorts c.definitions) (controller_shorts cs) e), controllers_chained cs (right (definition_shorts c.definitions) (controller_shorts cs) e))
