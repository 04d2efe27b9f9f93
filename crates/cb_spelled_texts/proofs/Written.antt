-- Controllers whose chains are not short, and which have few words, are written.
use Rattle.std.proofs.Common.{◌≡◌, ℕ, ◌+◌, List, [], ◌∷◌, arith}
use Rattle.std.specs.List.{flat_map}
use Rattle.cb_lex.specs.declared.raw.text.RawController.{RawController}
use Rattle.cb_lex.specs.declared.raw.text.RawDefinition.{RawDefinition}
use Rattle.cb_lex.specs.RawProcessTree.{RawProcessTree, RawProcesses}
use Rattle.cb_lex.specs.RawProcessTree as tree
use Rattle.cb_amn_parse.specs.Formulas.{terms_out, condition_out}
use Rattle.cb_amn_parse.specs.Processes.{event_out, process_out, operands_out, second_out, others_out, definition_entry, controller_entry}
use Rattle.cb_shapes.specs.Full.{AllOf}
use Rattle.cb_shapes.specs.Words.{words}
use Rattle.cb_typing.specs.Depths.{formula_depth}
use Rattle.cb_typing.specs.WrittenText.{FitsNumbers}
use Rattle.cb_text_laws.specs.SpelledText.{IsChain, IsWrittenProcess, AreWrittenProcesses, raw_prefixes, IsWrittenDefinition, AreWrittenDefinitions, IsWrittenController, AreWrittenControllers}
use Rattle.cb_spelled.proofs.Parts.{words_append}
use Rattle.cb_spelled.proofs.Depths.{formula_words}
use Rattle.cb_spelled_texts.proofs.Counts.{few, front_few, back_few, terms_written, condition_written, event_written, definitions_are_words, prefix_words}
use Rattle.cb_spelled_texts.proofs.Chains.{short, shorts, shorts_of_each, front_none, back_none}
use Rattle.cb_spelled_texts.proofs.Controllers.{IsChained, HasChains}

is_chain : (ps : RawProcesses) → short ps ≡ 0 → IsChain ps
is_chain tree.NoOperand h = absurd (omega (arith, h))
is_chain (tree.Operand p tree.NoOperand) h = absurd (omega (arith, h))
is_chain (tree.Operand p (tree.Operand q ps)) h = tt

mutual
  process_written : (p : RawProcessTree) → shorts p ≡ 0 → FitsNumbers (words (process_out p)) → IsWrittenProcess p
  process_written (tree.Stop q) z h = tt
  process_written (tree.Skip q) z h = tt
  process_written (tree.Call c) z h = terms_written c.name c.arguments (few (words (terms_out c.arguments) + 1) (words (process_out (tree.Call c))) (simp words_append (omega arith)) h)
  process_written (tree.If q f a b) z h =
      let n : ℕ = words (process_out (tree.If q f a b)) in (
        few (formula_depth f) n (simp words_append (omega (arith, formula_words f))) h,
        process_written a (front_none (shorts a) (shorts b) z) (few (words (process_out a)) n (simp words_append (omega arith)) h),
        process_written b (back_none (shorts a) (shorts b) z) (few (words (process_out b)) n (simp words_append (omega arith)) h),
      )
  process_written (tree.Prefix e a) z h =
      let n : ℕ = words (process_out (tree.Prefix e a)) in (
        event_written e (few (words (event_out e)) n (simp words_append (omega arith)) h),
        process_written a z (few (words (process_out a)) n (simp words_append (omega arith)) h),
      )
  process_written (tree.External ps) z h = (
    is_chain ps (front_none (short ps) (shorts_of_each ps) z),
    operands_written ps (back_none (short ps) (shorts_of_each ps) z) (few (words (operands_out ps)) (words (process_out (tree.External ps))) (simp words_append (omega arith)) h),
  )
  process_written (tree.Internal ps) z h = (
    is_chain ps (front_none (short ps) (shorts_of_each ps) z),
    operands_written ps (back_none (short ps) (shorts_of_each ps) z) (few (words (operands_out ps)) (words (process_out (tree.Internal ps))) (simp words_append (omega arith)) h),
  )

  operands_written : (ps : RawProcesses) → shorts_of_each ps ≡ 0 → FitsNumbers (words (operands_out ps)) → AreWrittenProcesses ps
  operands_written tree.NoOperand z h = tt
  operands_written (tree.Operand p ps) z h = (
    process_written p (front_none (shorts p) (shorts_of_each ps) z) (front_few (process_out p) (second_out ps) h),
    second_written ps (back_none (shorts p) (shorts_of_each ps) z) (back_few (process_out p) (second_out ps) h),
  )

  second_written : (ps : RawProcesses) → shorts_of_each ps ≡ 0 → FitsNumbers (words (second_out ps)) → AreWrittenProcesses ps
  second_written tree.NoOperand z h = tt
  second_written (tree.Operand p ps) z h =
      let n : ℕ = words (second_out (tree.Operand p ps)) in (
        process_written p (front_none (shorts p) (shorts_of_each ps) z) (few (words (process_out p)) n (simp words_append (omega arith)) h),
        others_written ps (back_none (shorts p) (shorts_of_each ps) z) (few (words (others_out ps)) n (simp words_append (omega arith)) h),
      )

  others_written : (ps : RawProcesses) → shorts_of_each ps ≡ 0 → FitsNumbers (words (others_out ps)) → AreWrittenProcesses ps
  others_written tree.NoOperand z h = tt
  others_written (tree.Operand p ps) z h =
      let n : ℕ = words (others_out (tree.Operand p ps)) in (
        process_written p (front_none (shorts p) (shorts_of_each ps) z) (few (words (process_out p)) n (simp words_append (omega arith)) h),
        others_written ps (back_none (shorts p) (shorts_of_each ps) z) (few (words (others_out ps)) n (simp words_append (omega arith)) h),
      )

-- ---- definitions and controllers

definition_written : (d : RawDefinition) → IsChained d → FitsNumbers (words (definition_entry d)) → IsWrittenDefinition d
definition_written d z h =
    let g : FitsNumbers (words (process_out d.process)) = few (words (process_out d.process)) (words (definition_entry d)) (simp words_append (omega arith)) h in
    record {
      invariant = condition_written d.invariant (few (words (condition_out d.invariant)) (words (definition_entry d)) (simp words_append (omega arith)) h);
      process = process_written d.process z g;
      few_branches = few (raw_prefixes d.process) (words (process_out d.process)) (prefix_words d.process) g;
    }

definitions_written : (ds : List RawDefinition) → AllOf IsChained ds → FitsNumbers (words (flat_map definition_entry ds)) → AreWrittenDefinitions ds
definitions_written [] f h = tt
definitions_written (d ∷ ds) f h = (
  definition_written d f.0 (front_few (definition_entry d) (flat_map definition_entry ds) h),
  definitions_written ds f.1 (back_few (definition_entry d) (flat_map definition_entry ds) h),
)

controller_written : (c : RawController) → HasChains c → FitsNumbers (words (controller_entry c)) → IsWrittenController c
controller_written c f h =
    let g : FitsNumbers (words (flat_map definition_entry c.definitions)) = few (words (flat_map definition_entry c.definitions)) (words (controller_entry c)) (simp words_append (omega arith)) h in
    record {
      start = terms_written c.start.name c.start.arguments (few (words (terms_out c.start.arguments) + 1) (words (controller_entry c)) (simp words_append (omega arith)) h);
      few_definitions = few _ _ (definitions_are_words c.definitions) g;
      definitions = definitions_written c.definitions f g;
    }

pub controllers_written : (cs : List RawController) → AllOf HasChains cs → FitsNumbers (words (flat_map controller_entry cs)) → AreWrittenControllers cs
controllers_written [] f h = tt
controllers_written (c ∷ cs) f h = (
  controller_written c f.0 (front_few (controller_entry c) (flat_map controller_entry cs) h),
  controllers_written cs f.1 (back_few (controller_entry c) (flat_map controller_entry cs) h),
)
