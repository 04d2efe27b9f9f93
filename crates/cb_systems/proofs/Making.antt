-- A definition in normal form is made of its parts in normal form.
use Rattle.std.proofs.Common.{◌≡◌, ◌∙◌, ◌+◌, ◌<◌, ◌++◌, ◌∷◌, [], ℕ, List, length, map, drop, get_or, refl, sym, ap, append_assoc}
use Rattle.cb_term.proofs.Steps.{drop_step}
use Rattle.cb_lex.specs.declared.raw.text.RawChannel.{RawChannel}
use Rattle.cb_lex.specs.declared.raw.text.RawDefinition.{RawDefinition}
use Rattle.cb_lex.specs.declared.raw.text.RawMachine.{RawMachine}
use Rattle.cb_term.specs.declared.name.Name.{Name}
use Rattle.cb_term.specs.Tree.{FormulaTree}
use Rattle.cb_spec.specs.declared.system.Declared.{Declared}
use Rattle.cb_spec.specs.declared.system.Definition.{Definition}
use Rattle.cb_spec.specs.ProcessTree.{ProcessTree}
use Rattle.cb_judge.specs.declared.names.View.{View}
use Rattle.cb_judge.specs.Meanings.{Names}
use Rattle.cb_types.specs.NormalMachines.{written_name, declared_name, maybe_formula}
use Rattle.cb_text_laws.specs.NormalProcesses.{process_in}
use Rattle.cb_text_laws.specs.NormalTexts.{definition_with, definition_in}
use Rattle.cb_text_laws.specs.Signatures.{parameter_domains, parameter_names, inside_definition, Definitions}
use Rattle.cb_text_laws.specs.TextNames.{outer_view, view_with}

abbrev built : Name → List Declared → FormulaTree → ProcessTree → Definition
built x ps f p = record { name = x; params = ps; invariant = f; body = p }

pub made : (before globals names : Names) (ms : List RawMachine) (channels : List RawChannel) (own : List ℕ) (table : Definitions) (d : RawDefinition) (v reading : View)
    (x : Name) (ps : List Declared) (f : FormulaTree) (p : ProcessTree) → globals ≡ names → v ≡ outer_view ms → reading ≡ view_with own ms →
    x ≡ written_name d.name → ps ≡ map (declared_name (parameter_domains v names d)) (parameter_names d) →
    f ≡ maybe_formula reading (inside_definition v names d) d.invariant →
    p ≡ process_in before globals ms channels v own table (inside_definition v names d) d.process →
    built x ps f p ≡ definition_in before names ms channels own table d
unfolding definition_with
made before globals names ms channels own table d v reading x ps f p eg ev er ex eps ef ep = rw (ex, eps, ef, ep) (rw (eg, ev, er) refl)

module _ {A B : Type 0} where
  -- a list that is mapped so far, with one more
  pub pushed : (f : A → B) (xs : List A) (i : ℕ) (x : A) (done new : List B) (y : B) → i < length xs → x ≡ get_or xs i x → new ≡ done ++ y ∷ [] → y ≡ f x →
      done ++ map f (drop i xs) ≡ map f xs → new ++ map f (drop (i + 1) xs) ≡ map f xs
  pushed f xs i x done new y lt is en ey before =
      let rest = map f (drop (i + 1) xs) in
      ap (λ (z : List B). z ++ rest) en
      ∙ append_assoc done (y ∷ []) rest
      ∙ ap (λ (z : B). done ++ z ∷ rest) ey
      ∙ sym (ap (λ (l : List A). done ++ map f l) (drop_step xs i x lt is))
      ∙ before
