-- The results of operations that controllers call have the forms that are judged.
use Rattle.std.proofs.Common.{◌≡◌, ℕ, zero, suc, inl, inr, List, [], ◌∷◌, ◌++◌, map, length, Option, Some, refl, sym, ap, ◌∙◌, subst, arith, slice_get}
use Rattle.std.proofs.lemmas.Option.{same_Some}
use Rattle.cb_lex.specs.declared.raw.name.RawName.{RawName}
use Rattle.cb_lex.specs.declared.raw.text.RawController.{RawController}
use Rattle.cb_lex.specs.declared.raw.text.RawMachine.{RawMachine}
use Rattle.cb_lex.specs.declared.raw.text.RawOperation.{RawOperation}
use Rattle.cb_lex.specs.declared.raw.text.RawText.{RawText}
use Rattle.cb_term.specs.declared.kind.Kind.{Kind}
use Rattle.cb_term.specs.declared.name.Name.{Name}
use Rattle.cb_spec.specs.declared.system.System.{System}
use Rattle.cb_spec.specs.Bound.{result_names}
use Rattle.cb_spec.specs.Forms.{Form}
use Rattle.cb_spec.specs.Journals.{set_sizes}
use Rattle.cb_spec.specs.Typed.{targets_of}
use Rattle.cb_spec.specs.TypedProcesses.{scope_of, result_forms as typed_results}
use Rattle.cb_spec.specs.TypedSubsts.{assigned_form, result_form, kind_of_target}
use Rattle.cb_spec.specs.TypedTerms.{Scope}
use Rattle.cb_forms.specs.Find.{found}
use Rattle.cb_forms.specs.Kinds.{form_of}
use Rattle.cb_judge.specs.declared.names.View.{View}
use Rattle.cb_judge.specs.Meanings.{Names}
use Rattle.cb_judge.specs.Substs.{Results, results_after}
use Rattle.cb_normal.specs.Normal.{written}
use Rattle.cb_normal.specs.NormalSubsts.{subst_in}
use Rattle.cb_types.specs.Declares.{Domains, domains_of, own_domains, variables_of, inner_view}
use Rattle.cb_types.specs.MachineFaults.{inside_operation, operation_fault, operations_fault}
use Rattle.cb_types.specs.NormalMachines.{known_in, declared_name, result_name, given_kind, operation_inside, operation_in, operation_with, machine_in, machine_with}
use Rattle.cb_typing.specs.Reflects.{IsProper}
use Rattle.cb_typing.specs.WrittenText.{FitsNumbers, IsWrittenOperation, AreWrittenOperations}
use Rattle.cb_typing.proofs.Clean.{Clean}
use Rattle.cb_typing.proofs.Members.{Has}
use Rattle.cb_typing.proofs.Parts.{machine_parts}
use Rattle.cb_text_laws.specs.TextNames.{text_names}
use Rattle.cb_text_laws.specs.Signatures.{Assigned, operation_assigned, result_forms, known_of}
use Rattle.cb_text_laws.specs.NormalTexts.{order_in, position}
use Rattle.cb_text_laws.specs.SpelledText.{IsSpelledText}
use Rattle.cb_text_laws.specs.WholeText.{WellFormedButEnds, IsSystemOf}
use Rattle.cb_text_laws.proofs.Locals.{AreProper}
use Rattle.cb_text_laws.proofs.Operations.{body_typed, body_clean, result_found, inside_targets, inside_reflects}
use Rattle.cb_text_laws.proofs.Processes.{machine_fact, ResultsAre}
use Rattle.cb_text_laws.proofs.Results.{formed, known_is, result_proper}

operation_fact : (v : View) (ns : Names) (os : List RawOperation) → AreWrittenOperations os → Clean (operations_fault v ns os) → (j : ℕ) (o : RawOperation) → slice_get os j ≡ Some o → IsWrittenOperation o × Clean (operation_fault v ns o)
operation_fact v ns [] w h j o e = let no : ⊥ = cc in absurd no
operation_fact v ns (r ∷ os) w h zero o e = subst (λ o. IsWrittenOperation o × Clean (operation_fault v ns o)) (same_Some r o e) (w.0, h.0)
operation_fact v ns (r ∷ os) w h (suc j) o e = operation_fact v ns os w.1 h.1 j o e

-- where each result is of the form that is judged, so are all
same_results : (a : Assigned) (b : Name → Option Form) (rs : Results) (xs : List RawName) → ((x : RawName) → Has xs x → found x.text a ≡ b (written x.text)) →
    map (λ n. result_form (b n)) (result_names (map (result_name rs) xs)) ≡ map form_of (map (λ (x : RawName). known_of (result_form (found x.text a))) xs)
unfolding result_name
same_results a b rs [] h = refl
same_results a b rs (x ∷ xs) h =
    let q : result_form (b (written x.text)) ≡ form_of (known_of (result_form (found x.text a))) = ap result_form (sym (h x (inl refl))) ∙ sym (known_is (result_form (found x.text a))) in
    rw q (ap (λ l. form_of (known_of (result_form (found x.text a))) ∷ l) (same_results a b rs xs (λ z m. h z (inr m))))

proper_results : (a : Assigned) (xs : List RawName) → ((x : RawName) → Has xs x → (f : Form) → found x.text a ≡ Some f → IsProper f) → AreProper (map (λ (x : RawName). known_of (result_form (found x.text a))) xs)
proper_results a [] h = tt
proper_results a (x ∷ xs) h = (subst IsProper (sym (known_is (result_form (found x.text a)))) (result_proper (found x.text a) (h x (inl refl))), proper_results a xs (λ z m. h z (inr m)))

module _ (t : RawText) (so : IsSpelledText t) (well : WellFormedButEnds t) (y : System) (sys : IsSystemOf t y) where
  abbrev G : Names
  G = text_names t

  module _ (k : ℕ) (m : RawMachine) (e : slice_get t.machines k ≡ Some m) (op : RawOperation) (wr : IsWrittenOperation op) (h : Clean (operation_fault (inner_view (known_in t.machines) k m) G op)) where
    abbrev v : View
    v = inner_view (known_in t.machines) k m

    abbrev ds : Domains
    ds = domains_of v G op.precondition

    abbrev inner : Names
    inner = inside_operation ds op G

    abbrev rs : Results
    rs = results_after v inner [] op.body

    abbrev own : Domains
    own = own_domains (known_in t.machines) k m

    abbrev scope : Scope
    scope = scope_of (map (declared_name ds) op.parameters) ++ scope_of (map (declared_name own) (variables_of m.state))

    abbrev targets : List (Name × Kind)
    targets = map (result_name rs) op.results ++ targets_of (map (declared_name own) (variables_of m.state))

    abbrev a : Assigned
    a = operation_assigned (known_in t.machines) G k m op

    one_result : (x : RawName) → Has op.results x → (found x.text a ≡ assigned_form (set_sizes y) (written x.text) scope (subst_in v inner op.body)) × ((f : Form) → found x.text a ≡ Some f → IsProper f)
    one_result x p =
        let f = result_found t so well y sys k m e op wr h x p in
        let target : kind_of_target targets (written x.text) ≡ Some (given_kind (found x.text rs)) = (inside_targets t so well y sys k m e op wr h).results x.text f.0 f.1.0 f.1.1 in
        let l = wr.body in
        let w = formed v (set_sizes y) targets x.text (given_kind (found x.text rs)) target op.body inner scope _ (inside_reflects t so well y sys k m e op wr h) [] (λ f e. let no : ⊥ = cc in absurd no) [] (omega (arith, l))
        (body_clean t so well y sys k m e op wr h).0 (body_typed t so well y sys k m e op wr h) in
        (w.at, (λ f q. (w.all f (sym w.at ∙ q)).1))

    operation_results : (typed_results (set_sizes y) (machine_in (known_in t.machines) G k m) (operation_in v G op) ≡ map form_of (result_forms (known_in t.machines) G k m op)) × AreProper (result_forms (known_in t.machines) G k m op)
    unfolding machine_in machine_with operation_in operation_inside operation_with
    operation_results =
        (same_results a (λ n. assigned_form (set_sizes y) n scope (subst_in v inner op.body)) rs op.results (λ x p. (one_result x p).0), proper_results a op.results (λ x p. (one_result x p).1))

  pub results_are : (i place : ℕ) (at : position place (order_in (text_names t) t.order) ≡ i) (c : RawController) (few : FitsNumbers (length c.definitions)) → ResultsAre t so well y sys i place at c few
  results_are i n at c few k m e place o p =
      let fact = machine_fact t so well k m e in
      let parts = machine_parts (known_in t.machines) G k m fact.1 in
      let f = operation_fact (inner_view (known_in t.machines) k m) G m.operations fact.0.operations parts.2 place o p in
      operation_results k m e o f.0 f.1
