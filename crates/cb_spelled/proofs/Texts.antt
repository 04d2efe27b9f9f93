-- A text whose machines are full, and which has few words, is written.
use Rattle.std.proofs.Common.{◌≡◌, ℕ, ◌<◌, ◌≤◌, ◌^◌, true, List, [], ◌∷◌, ◌++◌, length, Option, Some, None, arith, true≢false, sym, length-append}
use Rattle.std.proofs.lemmas.List.{length-map}
use Rattle.std.specs.List.{flat_map}
use Rattle.cb_lex.specs.declared.raw.text.RawMachine.{RawMachine}
use Rattle.cb_lex.specs.declared.raw.text.RawOperation.{RawOperation}
use Rattle.cb_lex.specs.declared.raw.text.RawSet.{RawSet}
use Rattle.cb_lex.specs.declared.raw.text.RawState.{RawState}
use Rattle.cb_lex.specs.RawTermTree.{RawFormulaTree}
use Rattle.cb_amn_parse.specs.Lexemes.{Lexeme}
use Rattle.cb_amn_parse.specs.Formulas.{condition_out}
use Rattle.cb_amn_parse.specs.Machines.{set_entry, state_out, operation_entry, machine_out}
use Rattle.cb_amn_parse.specs.Processes.{machine_entry, text_out}
use Rattle.cb_shapes.specs.Full.{some, AllOf, IsFullSubst, IsFullState, IsFull}
use Rattle.cb_shapes.specs.Laws.{TextIsFull, WordsAreTokens}
use Rattle.cb_shapes.specs.Words.{words}
use Rattle.cb_typing.specs.Depths.{formula_depth, subst_depth}
use Rattle.cb_types.specs.NormalMachines.{sets_of}
use Rattle.cb_typing.specs.WrittenText.{FitsNumbers, AreWrittenSets, IsWrittenFormula, IsWrittenState, IsWrittenOperation, AreWrittenOperations, IsWrittenMachine, AreWrittenMachines}
use Rattle.cb_spelled.specs.Laws.{SpelledIsWritten}
use Rattle.cb_spelled.proofs.Parts.{words_append, parts_are_words}
use Rattle.cb_spelled.proofs.Depths.{formula_words, subst_words, full_has_sides}

below : (m n k : ℕ) → m ≤ n → n < k → m < k
below m n k a b = omega arith

few : (m n : ℕ) → m ≤ n → FitsNumbers n → FitsNumbers m
few m n = below m n (2 ^ 32)

front_few : (a b : List Lexeme) → FitsNumbers (words (a ++ b)) → FitsNumbers (words a)
front_few a b = few (words a) (words (a ++ b)) (omega (arith, words_append a b))

back_few : (a b : List Lexeme) → FitsNumbers (words (a ++ b)) → FitsNumbers (words b)
back_few a b = few (words b) (words (a ++ b)) (omega (arith, words_append a b))

-- ---- the parts of a machine

has_elements : {X : Type 0} (xs : List X) → some xs ≡ true → 0 < length xs
has_elements [] h = absurd (true≢false (sym h))
has_elements (x ∷ xs) h = omega arith

sets_written : (ss : List RawSet) → AllOf (λ s. some s.elements ≡ true) ss → AreWrittenSets ss
sets_written [] h = tt
sets_written (s ∷ ss) h = (has_elements s.elements h.0, sets_written ss h.1)

condition_written : (f : Option RawFormulaTree) → FitsNumbers (words (condition_out f)) → IsWrittenFormula f
condition_written None h = tt
condition_written (Some f) h = few (formula_depth f) (words (condition_out (Some f))) (simp words_append (omega (arith, formula_words f))) h

state_written : (s : Option RawState) → IsFullState s → FitsNumbers (words (state_out s)) → IsWrittenState s
state_written None f h = tt
state_written (Some s) f h = (
  few (formula_depth s.invariant) (words (state_out (Some s))) (simp words_append (omega (arith, formula_words s.invariant))) h,
  few (subst_depth s.initialisation) (words (state_out (Some s))) (simp words_append (omega (arith, subst_words s.initialisation))) h,
  full_has_sides s.initialisation f.1,
)

operation_written : (o : RawOperation) → IsFullSubst o.body → FitsNumbers (words (operation_entry o)) → IsWrittenOperation o
operation_written o f h = record {
  precondition = condition_written o.precondition (few (words (condition_out o.precondition)) (words (operation_entry o)) (simp words_append (omega arith)) h);
  body = few (subst_depth o.body) (words (operation_entry o)) (simp words_append (omega (arith, subst_words o.body))) h;
  sides = full_has_sides o.body f;
}

operations_written : (os : List RawOperation) → AllOf (λ o. IsFullSubst o.body) os → FitsNumbers (words (flat_map operation_entry os)) → AreWrittenOperations os
operations_written [] f h = tt
operations_written (o ∷ os) f h = (
  operation_written o f.0 (front_few (operation_entry o) (flat_map operation_entry os) h),
  operations_written os f.1 (back_few (operation_entry o) (flat_map operation_entry os) h),
)

-- ---- machines

sets_in : (m : RawMachine) → length m.sets ≤ words (machine_out m)
sets_in m =
    let h : length m.sets ≤ words (flat_map set_entry m.sets) = parts_are_words set_entry (λ s. simp words_append (omega arith)) m.sets in
    simp words_append (omega (arith, h))

state_in : (m : RawMachine) → words (state_out m.state) ≤ words (machine_out m)
state_in m = simp words_append (omega arith)

operations_in : (m : RawMachine) → words (flat_map operation_entry m.operations) ≤ words (machine_out m)
operations_in m = simp words_append (omega arith)

machine_written : (m : RawMachine) → IsFull m → FitsNumbers (words (machine_out m)) → IsWrittenMachine m
machine_written m f h =
    let g : FitsNumbers (words (flat_map operation_entry m.operations)) = few _ _ (operations_in m) h in
    record {
      sets = sets_written m.sets f.sets;
      state = state_written m.state f.state (few _ _ (state_in m) h);
      few_operations = few _ _ (parts_are_words operation_entry (λ o. simp words_append (omega arith)) m.operations) g;
      operations = operations_written m.operations f.operations g;
    }

machines_written : (ms : List RawMachine) → AllOf IsFull ms → FitsNumbers (words (flat_map machine_entry ms)) → AreWrittenMachines ms
machines_written [] f h = tt
machines_written (m ∷ ms) f h = (
  machine_written m f.0 (front_few (machine_out m) _ (front_few (machine_entry m) (flat_map machine_entry ms) h)),
  machines_written ms f.1 (back_few (machine_entry m) (flat_map machine_entry ms) h),
)

sets_of_machines : (ms : List RawMachine) → length (sets_of ms) ≤ words (flat_map machine_entry ms)
sets_of_machines [] = omega arith
sets_of_machines (m ∷ ms) =
    let first : words (machine_out m) ≤ words (machine_entry m) = simp words_append (omega arith) in
    simp (words_append (machine_entry m) (flat_map machine_entry ms), length-append, length-map) (omega (arith, sets_in m, first, sets_of_machines ms))

-- ---- the law

pub spelled_written : TextIsFull → WordsAreTokens → SpelledIsWritten
spelled_written full are_tokens p depth opened ts taken rest t h q =
    let all : FitsNumbers (words (text_out t ++ rest)) = few _ _ (are_tokens p depth opened ts taken (text_out t ++ rest) q) h in
    let few_words : FitsNumbers (words (flat_map machine_entry t.machines)) = front_few (flat_map machine_entry t.machines) _ (front_few (text_out t) rest all) in
    record {
      few_machines = few _ _ (parts_are_words machine_entry (λ m. simp words_append (omega arith)) t.machines) few_words;
      few_sets = few _ _ (sets_of_machines t.machines) few_words;
      machines = machines_written t.machines (full p depth opened ts taken rest t q) few_words;
    }
