-- Definitions are judged alike where each name stands for the same definition.
use Rattle.std.proofs.Common.{◌≡◌, ◌∙◌, ℕ, Bool, true, false, List, [], ◌∷◌, length, Option, Some, None, refl, ap}
use Rattle.cb_lex.specs.declared.raw.event.RawEvent.{RawEvent}
use Rattle.cb_lex.specs.declared.raw.event.RawEvent.TheVariants as event
use Rattle.cb_lex.specs.declared.raw.name.RawName.{RawName}
use Rattle.cb_lex.specs.declared.raw.text.RawChannel.{RawChannel}
use Rattle.cb_lex.specs.declared.raw.text.RawDefinition.{RawDefinition}
use Rattle.cb_lex.specs.declared.raw.text.RawMachine.{RawMachine}
use Rattle.cb_lex.specs.RawProcessTree.{RawProcessTree, Stop, Skip, Call, If, Prefix, External, Internal, RawProcesses, NoOperand, Operand}
use Rattle.cb_lex.specs.RawTermTree.{RawTermTree, RawFormulaTree}
use Rattle.cb_forms.specs.declared.form.Form.{Form as Known}
use Rattle.cb_forms.specs.Faults.{Faults, Both}
use Rattle.cb_forms.specs.Find.{found}
use Rattle.cb_judge.specs.declared.names.View.{View}
use Rattle.cb_judge.specs.Judged.{fault_of}
use Rattle.cb_judge.specs.Meanings.{Names}
use Rattle.cb_types.specs.Declares.{next, machine_number}
use Rattle.cb_types.specs.MachineFaults.{maybe_fault}
use Rattle.cb_text_laws.specs.ControllerFaults.{parameters_fault, definition_fault, definitions_fault}
use Rattle.cb_text_laws.specs.ProcessFaults as spec
use Rattle.cb_text_laws.specs.Signatures.{Definitions, Callee, callee, channel_of, inside_definition, parameters_of}
use Rattle.cb_text_laws.specs.TextNames.{outer_view, view_with}
use Rattle.cb_controls.specs.SameDefinitions.{AreSame}

-- faults of two parts that are alike are alike
both : (a b c d : Faults) → a ≡ b → c ≡ d → Both a c ≡ Both b d
both a b c d p q = ap (λ x. Both x c) p ∙ ap (λ x. Both b x) q

module _ (before globals : Names) (ms : List RawMachine) (channels : List RawChannel) (v : View) (own : List ℕ) (ds es : Definitions) where
  -- what an event says has nothing to do with definitions
  forms_same : (c : Option RawChannel) → spec.forms_at before globals ms channels v own ds c ≡ spec.forms_at before globals ms channels v own es c
  forms_same None = refl
  forms_same (Some c) = refl

  results_same : (o : Option Callee) → spec.results_at before globals ms channels v own ds o ≡ spec.results_at before globals ms channels v own es o
  results_same None = refl
  results_same (Some o) = refl

  output_same : (names : Names) (x : RawName) (ts : List RawTermTree) (said : Option RawFormulaTree) (c : Option RawChannel) →
      spec.output_fault before globals ms channels v own ds names x ts said c ≡ spec.output_fault before globals ms channels v own es names x ts said c
  output_same names x ts said None = refl
  output_same names x ts said (Some c) = refl

  input_same : (names : Names) (x : RawName) (xs : List RawName) (said : Option RawFormulaTree) (c : Option RawChannel) →
      spec.input_fault before globals ms channels v own ds names x xs said c ≡ spec.input_fault before globals ms channels v own es names x xs said c
  input_same names x xs said None = refl
  input_same names x xs said (Some c) = refl

  unknown_same : (k : Option ℕ) (o : Option Callee) (x y : RawName) →
      spec.unknown_operation before globals ms channels v own ds k o x y ≡ spec.unknown_operation before globals ms channels v own es k o x y
  unknown_same None o x y = refl
  unknown_same (Some k) o x y = refl

  operation_same : (names : Names) (x y : RawName) (ts : List RawTermTree) (xs : List RawName) (o : Option Callee) →
      spec.operation_call_fault before globals ms channels v own ds names x y ts xs o ≡ spec.operation_call_fault before globals ms channels v own es names x y ts xs o
  operation_same names x y ts xs None = both _ _ _ _ (both _ _ _ _ (unknown_same (machine_number (found x.text names)) None x y) refl) refl
  operation_same names x y ts xs (Some o) = both _ _ _ _ (both _ _ _ _ (unknown_same (machine_number (found x.text names)) (Some o) x y) refl) refl

  event_same : (names : Names) (e : RawEvent) → spec.event_fault before globals ms channels v own ds names e ≡ spec.event_fault before globals ms channels v own es names e
  event_same names (event.Output x ts said) = output_same names x ts said (channel_of channels names x)
  event_same names (event.Input x xs said) = input_same names x xs said (channel_of channels names x)
  event_same names (event.Operation x y ts xs) = operation_same names x y ts xs (callee before globals ms names x y)

  after_same : (names : Names) (e : RawEvent) → spec.after_event before globals ms channels v own ds names e ≡ spec.after_event before globals ms channels v own es names e
  after_same names (event.Output x ts said) = refl
  after_same names (event.Input x xs said) = ap (spec.with_locals names xs) (forms_same (channel_of channels names x))
  after_same names (event.Operation x y ts xs) = ap (spec.with_locals names xs) (results_same (callee before globals ms names x y))

  call_same : (j : ℕ) (guarded : Bool) (x : RawName) (given : ℕ) (o : Option (ℕ × List Known)) →
      spec.call_fault before globals ms channels v own ds j guarded x given o ≡ spec.call_fault before globals ms channels v own es j guarded x given o
  call_same j guarded x given None = refl
  call_same j guarded x given (Some d) = refl

  module _ (same : AreSame ds es) (j : ℕ) where
    mutual
      process_same : (names : Names) (guarded : Bool) (p : RawProcessTree) →
          spec.process_fault before globals ms channels v own ds j names guarded p ≡ spec.process_fault before globals ms channels v own es j names guarded p
      process_same names guarded (Stop p) = refl
      process_same names guarded (Skip p) = refl
      process_same names guarded (Call c) = both _ _ _ _
          (call_same j guarded c.name (length c.arguments) (found c.name.text ds) ∙ ap (spec.call_fault before globals ms channels v own es j guarded c.name (length c.arguments)) (same c.name.text))
          (ap (λ (o : Option (ℕ × List Known)). spec.arguments_fault v names (parameters_of o) c.arguments) (same c.name.text))
      process_same names guarded (If p f a b) = ap (λ x. Both (fault_of v names f) x) (both _ _ _ _ (process_same names guarded a) (process_same names guarded b))
      process_same names guarded (Prefix e a) = both _ _ _ _
          (event_same names e)
          (process_same (spec.after_event before globals ms channels v own ds names e) true a
          ∙ ap (λ (w : Names). spec.process_fault before globals ms channels v own es j w true a) (after_same names e))
      process_same names guarded (External ps) = ap (λ x. Both (spec.operands_fault ps) x) (processes_same names guarded ps)
      process_same names guarded (Internal ps) = processes_same names guarded ps

      processes_same : (names : Names) (guarded : Bool) (ps : RawProcesses) →
          spec.processes_fault before globals ms channels v own ds j names guarded ps ≡ spec.processes_fault before globals ms channels v own es j names guarded ps
      processes_same names guarded NoOperand = refl
      processes_same names guarded (Operand p ps) = both _ _ _ _ (process_same names guarded p) (processes_same names guarded ps)

module _ (before names : Names) (ms : List RawMachine) (channels : List RawChannel) (own : List ℕ) (ds es : Definitions) (same : AreSame ds es) where
  definition_same : (j : ℕ) (d : RawDefinition) → definition_fault before names ms channels own ds j d ≡ definition_fault before names ms channels own es j d
  unfolding definition_fault
  definition_same j d =
      ap (λ x. Both (parameters_fault (outer_view ms) names d) (Both (maybe_fault (view_with own ms) (inside_definition (outer_view ms) names d) d.invariant) x))
      (process_same before names ms channels (outer_view ms) own ds es same j (inside_definition (outer_view ms) names d) false d.process)

  pub definitions_same : (j : ℕ) (xs : List RawDefinition) → definitions_fault before names ms channels own ds j xs ≡ definitions_fault before names ms channels own es j xs
  definitions_same j [] = refl
  definitions_same j (d ∷ xs) = both _ _ _ _ (definition_same j d) (definitions_same (next j) xs)
