-- Definitions have one normal form where each name stands for the same definition.
use Rattle.std.proofs.Common.{◌≡◌, ◌∙◌, ℕ, List, [], ◌∷◌, map, Option, Some, None, refl, ap}
use Rattle.cb_lex.specs.declared.raw.event.RawEvent.{RawEvent}
use Rattle.cb_lex.specs.declared.raw.event.RawEvent.TheVariants as raw_event
use Rattle.cb_lex.specs.declared.raw.text.RawChannel.{RawChannel}
use Rattle.cb_lex.specs.declared.raw.text.RawDefinition.{RawDefinition}
use Rattle.cb_lex.specs.declared.raw.text.RawMachine.{RawMachine}
use Rattle.cb_lex.specs.RawProcessTree.{RawProcessTree, Stop, Skip, Call, If, Prefix, External, Internal, RawProcesses, NoOperand, Operand}
use Rattle.cb_spec.specs.declared.event.Event.{Event}
use Rattle.cb_spec.specs.declared.event.Event.TheVariants as event
use Rattle.cb_spec.specs.declared.system.Definition.{Definition}
use Rattle.cb_spec.specs.ProcessTree.{ProcessTree}
use Rattle.cb_spec.specs.ProcessTree as tree
use Rattle.cb_forms.specs.declared.form.Form.{Form as Known}
use Rattle.cb_forms.specs.Find.{found}
use Rattle.cb_judge.specs.declared.names.View.{View}
use Rattle.cb_judge.specs.Meanings.{Names}
use Rattle.cb_normal.specs.Normal.{formula_in}
use Rattle.cb_types.specs.NormalMachines.{declared_name, maybe_formula, written_name}
use Rattle.cb_text_laws.specs.NormalProcesses.{arguments_in, choices_in, definition_number, event_in, internals_in, note_in, process_in}
use Rattle.cb_text_laws.specs.NormalTexts.{definition_in, definition_with}
use Rattle.cb_text_laws.specs.ProcessFaults as spec
use Rattle.cb_text_laws.specs.Signatures.{Callee, Definitions, callee, channel_of, inside_definition, parameter_domains, parameter_names}
use Rattle.cb_text_laws.specs.TextNames.{channel_number, number_or_none, outer_view, view_with}
use Rattle.cb_controls.specs.SameDefinitions.{AreSame}

-- trees of two parts that are alike are alike
both : (f : ProcessTree → ProcessTree → ProcessTree) (a b c d : ProcessTree) → a ≡ b → c ≡ d → f a c ≡ f b d
both f a b c d p q = ap (λ (x : ProcessTree). f x c) p ∙ ap (f b) q

module _ (before globals : Names) (ms : List RawMachine) (channels : List RawChannel) (v : View) (own : List ℕ) (ds es : Definitions) where
  -- what an event says has nothing to do with definitions
  forms_same : (c : Option RawChannel) → spec.forms_at before globals ms channels v own ds c ≡ spec.forms_at before globals ms channels v own es c
  forms_same None = refl
  forms_same (Some c) = refl

  noted_same : (c : Option RawChannel) → spec.noted before globals ms channels v own ds c ≡ spec.noted before globals ms channels v own es c
  noted_same None = refl
  noted_same (Some c) = refl

  results_same : (o : Option Callee) → spec.results_at before globals ms channels v own ds o ≡ spec.results_at before globals ms channels v own es o
  results_same None = refl
  results_same (Some o) = refl

  event_same : (names : Names) (e : RawEvent) → event_in before globals ms channels v own ds names e ≡ event_in before globals ms channels v own es names e
  event_same names (raw_event.Output x ts said) =
      ap (λ (w : Names). event.Output (number_or_none (channel_number (found x.text names))) (arguments_in v names ts) (note_in v w said))
      (noted_same (channel_of channels names x))
  event_same names (raw_event.Input x xs said) =
      ap (λ (fs : List Known). event.Input (number_or_none (channel_number (found x.text names))) (map written_name xs) (note_in v (spec.with_locals globals xs fs) said))
      (forms_same (channel_of channels names x))
  event_same names (raw_event.Operation x y ts xs) = refl

  after_same : (names : Names) (e : RawEvent) → spec.after_event before globals ms channels v own ds names e ≡ spec.after_event before globals ms channels v own es names e
  after_same names (raw_event.Output x ts said) = refl
  after_same names (raw_event.Input x xs said) = ap (spec.with_locals names xs) (forms_same (channel_of channels names x))
  after_same names (raw_event.Operation x y ts xs) = ap (spec.with_locals names xs) (results_same (callee before globals ms names x y))

  module _ (same : AreSame ds es) where
    mutual
      process_same : (names : Names) (p : RawProcessTree) → process_in before globals ms channels v own ds names p ≡ process_in before globals ms channels v own es names p
      process_same names (Stop p) = refl
      process_same names (Skip p) = refl
      process_same names (Call c) = ap (λ (o : Option (ℕ × List Known)). tree.Call (definition_number o) (arguments_in v names c.arguments)) (same c.name.text)
      process_same names (If p f a b) = both (tree.If (formula_in v names f)) _ _ _ _ (process_same names a) (process_same names b)
      process_same names (Prefix e a) =
          ap (λ (o : Event). tree.Prefix o (process_in before globals ms channels v own ds (spec.after_event before globals ms channels v own ds names e) a)) (event_same names e)
          ∙ ap (tree.Prefix (event_in before globals ms channels v own es names e))
          (process_same (spec.after_event before globals ms channels v own ds names e) a
          ∙ ap (λ (w : Names). process_in before globals ms channels v own es w a) (after_same names e))
      process_same names (External NoOperand) = refl
      process_same names (External (Operand p ps)) = choices_same names _ _ (process_same names p) ps
      process_same names (Internal NoOperand) = refl
      process_same names (Internal (Operand p ps)) = internals_same names _ _ (process_same names p) ps

      choices_same : (names : Names) (a b : ProcessTree) → a ≡ b → (ps : RawProcesses) → choices_in before globals ms channels v own ds names a ps ≡ choices_in before globals ms channels v own es names b ps
      choices_same names a b alike NoOperand = alike
      choices_same names a b alike (Operand p ps) = choices_same names _ _ (both tree.Choice a b _ _ alike (process_same names p)) ps

      internals_same : (names : Names) (a b : ProcessTree) → a ≡ b → (ps : RawProcesses) → internals_in before globals ms channels v own ds names a ps ≡ internals_in before globals ms channels v own es names b ps
      internals_same names a b alike NoOperand = alike
      internals_same names a b alike (Operand p ps) = internals_same names _ _ (both tree.Internal a b _ _ alike (process_same names p)) ps

module _ (before names : Names) (ms : List RawMachine) (channels : List RawChannel) (own : List ℕ) (ds es : Definitions) (same : AreSame ds es) where
  definition_same : (d : RawDefinition) → definition_in before names ms channels own ds d ≡ definition_in before names ms channels own es d
  definition_same d =
      ap (definition_with d (map (declared_name (parameter_domains (outer_view ms) names d)) (parameter_names d)) (maybe_formula (view_with own ms) (inside_definition (outer_view ms) names d) d.invariant))
      (process_same before names ms channels (outer_view ms) own ds es same (inside_definition (outer_view ms) names d) d.process)

  pub definitions_same : (xs : List RawDefinition) → map (definition_in before names ms channels own ds) xs ≡ map (definition_in before names ms channels own es) xs
  definitions_same [] = refl
  definitions_same (d ∷ xs) =
      ap (λ (x : Definition). x ∷ map (definition_in before names ms channels own ds) xs) (definition_same d)
      ∙ ap (λ (ys : List Definition). definition_in before names ms channels own es d ∷ ys) (definitions_same xs)
