-- The operations of a text without a fault are typed.
use Rattle.std.proofs.Common.{◌≡◌, ◌≢◌, ℕ, zero, suc, ◌+◌, ◌≤◌, ◌<◌, true, inl, List, [], ◌∷◌, ◌++◌, map, length, Option, Some, None, refl, sym, ap, ◌∙◌, subst, arith, slice_get, Contains}
use Rattle.std.proofs.lemmas.Bool.{ltb-false}
use Rattle.std.proofs.lemmas.List.{length-map}
use Rattle.cb_lex.specs.declared.raw.name.RawName.{RawName}
use Rattle.cb_lex.specs.declared.raw.text.RawMachine.{RawMachine}
use Rattle.cb_lex.specs.declared.raw.text.RawText.{RawText}
use Rattle.cb_lex.specs.declared.raw.text.RawOperation.{RawOperation}
use Rattle.cb_lex.specs.RawTermTree.{RawFormulaTree}
use Rattle.cb_term.specs.declared.name.Name.{Name}
use Rattle.cb_term.specs.declared.kind.Domain.{Domain}
use Rattle.cb_term.specs.declared.kind.Kind.{Kind}
use Rattle.cb_term.specs.Tree.{Var}
use Rattle.cb_spec.specs.declared.system.System.{System}
use Rattle.cb_spec.specs.Bound.{names, result_names, is_among}
use Rattle.cb_spec.specs.Domains.{kind_of_domain}
use Rattle.cb_spec.specs.Forms.{form_of_domain, is_of_kind}
use Rattle.cb_spec.specs.Journals.{set_sizes}
use Rattle.cb_spec.specs.Runs.{Fits}
use Rattle.cb_spec.specs.Typed.{global_names, targets_of, GivesDomains, TypedOperation}
use Rattle.cb_spec.specs.TypedProcesses.{AreNew, scope_of}
use Rattle.cb_spec.specs.TypedSubsts.{TypedSubst, kind_of_target, always_writes, assigned_form, result_form}
use Rattle.cb_spec.specs.TypedTerms.{Scope, TypedFormula}
use Rattle.cb_forms.specs.Find.{found}
use Rattle.cb_forms.specs.Kinds.{form_of}
use Rattle.cb_judge.specs.declared.names.Entry.{Entry}
use Rattle.cb_judge.specs.declared.names.Meaning.TheVariants as meaning
use Rattle.cb_judge.specs.declared.names.View.{View}
use Rattle.cb_judge.specs.Meanings.{Names}
use Rattle.cb_judge.specs.Choices.{form_or_nought}
use Rattle.cb_judge.specs.Judged.{entry}
use Rattle.cb_judge.specs.Substs.{Results, results_after, subst_fault}
use Rattle.cb_judge.specs.Writes.{shared, missing}
use Rattle.cb_normal.specs.Normal.{written, named}
use Rattle.cb_normal.specs.NormalSubsts.{any, subst_in}
use Rattle.cb_types.specs.declared.declare.Sort.TheVariants as sort
use Rattle.cb_types.specs.Declares.{Domains, domains_of, own_domains, variables_of, inner_view, domain_faults, reserved}
use Rattle.cb_types.specs.MachineFaults.{inside_operation, with_results, maybe_fault, locals_fault, operation_fault}
use Rattle.cb_types.specs.NormalMachines.{known_in, declared_name, result_name, given_kind, maybe_formula, operation_inside, operation_in, machine_in, machine_with, operation_with}
use Rattle.cb_text_laws.specs.WholeText.{WellFormedButEnds, IsSystemOf}
use Rattle.cb_typing.specs.WrittenText.{IsWrittenOperation, IsWrittenFormula}
use Rattle.cb_text_laws.specs.SpelledText.{IsSpelledText}
use Rattle.cb_typing.specs.Reflects.{IsProper, Means, IsKnown, Reflects, ReflectsTargets, Reserves}
use Rattle.cb_typing.proofs.Clean.{Clean, not_bad}
use Rattle.cb_typing.proofs.Counts.{count, texts, Distinct, new_distinct, Each, each_append, times, times_append, among_times, written_append, are_new}
use Rattle.cb_typing.proofs.Domains.{Stays}
use Rattle.cb_typing.proofs.Terms.{formula_good}
use Rattle.cb_typing.proofs.Writing.{always_is_always}
use Rattle.cb_typing.proofs.Substs.{walk, leads_self}
use Rattle.cb_typing.proofs.Fitting.{fits_so}
use Rattle.cb_typing.proofs.Results.{kept, ends}
use Rattle.cb_typing.proofs.Declared.{entries, Adds}
use Rattle.cb_typing.proofs.Globals.{count_parts, declared_written}
use Rattle.cb_typing.proofs.Operations.{made, all_written}
use Rattle.cb_text_laws.specs.TextNames.{text_names}
use Rattle.cb_text_laws.proofs.Globals.{all_entries, text_is, text_distinct, global_times}
use Rattle.cb_typing.proofs.Entries.{each_entries, each_front, each_back}
use Rattle.cb_typing.proofs.Members.{Has, each_member, member_sort, scope_has, targets_have, nought_form, HasDomain, has_domain, gives_domains}
use Rattle.cb_typing.proofs.Parts.{body_parts, locals_parts, operation_parts}
use Rattle.cb_text_laws.proofs.Views.{reserves, global_known, knows, inner_reflects, HasTargets, variables_target, no_result, variable_found}
use Rattle.cb_typing.proofs.Inside.{not_added, all_outside, each_has, form_front, form_back, kind_front, kind_back, results_have, parameters_times, results_times, results_written, local_entries, locals_add, added_stays, added_found, of_added, added_known, means_same}

module _ (t : RawText) (so : IsSpelledText t) (well : WellFormedButEnds t) (y : System) (sys : IsSystemOf t y) (o : ℕ) (m : RawMachine) (e : slice_get t.machines o ≡ Some m) (op : RawOperation)
    (wr : IsWrittenOperation op) (h : Clean (operation_fault (inner_view (known_in t.machines) o m) (text_names t) op)) where
  abbrev v : View
  v = inner_view (known_in t.machines) o m

  abbrev ns : Names
  ns = text_names t

  abbrev ds : Domains
  ds = domains_of v ns op.precondition

  abbrev inner : Names
  inner = inside_operation ds op ns

  abbrev rs : Results
  rs = results_after v inner [] op.body

  abbrev own : Domains
  own = own_domains (known_in t.machines) o m

  abbrev VS : Scope
  VS = scope_of (map (declared_name own) (variables_of m.state))

  abbrev PS : Scope
  PS = scope_of (map (declared_name ds) op.parameters)

  abbrev taken : List Name
  taken = names (map (declared_name ds) op.parameters) ++ result_names (map (result_name rs) op.results) ++ global_names y

  abbrev targets : List (Name × Kind)
  targets = map (result_name rs) op.results ++ targets_of (map (declared_name own) (variables_of m.state))

  abbrev E : Names
  E = local_entries ds op

  locals_clean : Clean (locals_fault ds op ns)
  locals_clean = (operation_parts v ns op h).0

  pre_clean : Clean (maybe_fault v inner op.precondition)
  pre_clean = (operation_parts v ns op h).1

  pub body_clean : Clean (subst_fault v inner [] op.body) × Clean (shared inner [] op.body) × Clean (missing op.body (Some op.name.place) op.results)
  body_clean = body_parts v inner op.body (Some op.name.place) op.results (operation_parts v ns op h).2

  adds : Adds ns inner E
  adds = locals_add ds op ns locals_clean

  stays : Stays ns inner
  stays x f q = added_stays v ns inner E adds x f q

  parameter_clean : (x : RawName) → Has op.parameters x → Clean (domain_faults (found x.text ds) x.place)
  parameter_clean x p = member_sort sort.Parameter [] ds op.parameters 0 (with_results op ns) (locals_parts ds op ns locals_clean).1 x p

  pub parameter_domain : (x : RawName) → Has op.parameters x → HasDomain (set_sizes y) (found x.text ds)
  parameter_domain x p = by op.precondition (parameter_clean x p)
    where
      by : (f : Option RawFormulaTree) → Clean (domain_faults (found x.text (domains_of v ns f)) x.place) → HasDomain (set_sizes y) (found x.text (domains_of v ns f))
      by None c = absurd c.0
      by (Some f) c = has_domain v v ns inner (set_sizes y) stays (knows t so well y sys) f x c

  split : (x : List ℕ) → count x (texts E) ≡ count x (texts (entries sort.Result [] [] 0 op.results)) + count x (texts (entries sort.Parameter [] ds 0 op.parameters))
  split x = count_parts x (entries sort.Result [] [] 0 op.results) (entries sort.Parameter [] ds 0 op.parameters)

  fair : Each (λ x e. e.meaning ≢ meaning.Reserved) E
  fair = each_append (λ x e. e.meaning ≢ meaning.Reserved) (entries sort.Result [] [] 0 op.results) (entries sort.Parameter [] ds 0 op.parameters)
      (each_entries (λ x e. e.meaning ≢ meaning.Reserved) sort.Result [] [] (λ i x q. let no : ⊥ = cc in no) 0 op.results)
      (each_entries (λ x e. e.meaning ≢ meaning.Reserved) sort.Parameter [] ds (λ i x q. let no : ⊥ = cc in no) 0 op.parameters)

  taken_times : (x : List ℕ) → times x taken ≡ count x (texts E) + times x (global_names y)
  taken_times x =
      let a = times_append x (names (map (declared_name ds) op.parameters)) (result_names (map (result_name rs) op.results)) in
      let b = times_append x (names (map (declared_name ds) op.parameters) ++ result_names (map (result_name rs) op.results)) (global_names y) in
      omega (arith, a, b, parameters_times x ds 0 op.parameters, results_times x rs 0 op.results, split x)

  pub inside_known : (x : List ℕ) → is_among (written x) (taken ++ []) ≡ true → IsKnown inner x
  inside_known x q = by (count x (texts E)) refl
    where
      some : 0 < count x (texts E) + times x (global_names y)
      some = let a = among_times x (taken ++ []) q in let b = times_append x taken [] in omega (arith, a, b, taken_times x)

      by : (n : ℕ) → count x (texts E) ≡ n → IsKnown inner x
      by zero z = let g = global_known t so well y sys x (omega (arith, some, z)) in (g.0, stays x g.0 g.1, g.2)
      by (suc n) z = added_known v ns inner E adds fair x (omega (arith, z))

  pub inside_reflects : Reflects v inner (set_sizes y) (PS ++ VS) taken []
  inside_reflects = record { known = inside_known; means = of_added v ns inner E adds Here old (each_append Here (entries sort.Result [] [] 0 op.results) (entries sort.Parameter [] ds 0 op.parameters) results parameters) }
    where
      Here : List ℕ → Entry → Type 0
      Here x e = Means v (set_sizes y) (PS ++ VS) [] (length inner) x e.meaning

      out : Reflects v ns (set_sizes y) VS (global_names y) []
      out = inner_reflects t so well y sys o m e VS (λ x q. scope_has own (variables_of m.state) x q)

      old : (x : List ℕ) (f : Entry) → found x ns ≡ Some f → count x (texts E) ≡ 0 → Here x f
      old x f q z = means_same v (set_sizes y) VS (PS ++ VS) (length ns) (length inner) x f.meaning (form_back ds op.parameters VS x 0 (omega (arith, z, split x))) (out.means x f q)

      results : Each Here (entries sort.Result [] [] 0 op.results)
      results = each_entries Here sort.Result [] [] (λ i x. tt) 0 op.results

      parameters : Each Here (entries sort.Parameter [] ds 0 op.parameters)
      parameters = each_member Here sort.Parameter [] ds op.parameters (λ i x p.
          (let f = nought_form (found x.text ds) in
          (form_front PS VS (written x.text) (form_of (form_or_nought (found x.text ds))) (scope_has ds op.parameters x p ∙ ap Some (sym f)), subst IsProper (sym f) (parameter_domain x p).proper))) 0

  pub inside_reserves : Reserves inner
  inside_reserves = let s = reserves t so well y sys in (s.0, (stays any.text s.0 s.1.0, s.1.1))

  has_targets : HasTargets t so well y sys targets o m
  has_targets x p =
      let f = variable_found t so well y sys o m e x p in
      let z = not_added x.text f.0 ns E (all_outside ns E adds.new) f.1.0 in
      kind_back rs op.results (targets_of (map (declared_name own) (variables_of m.state))) x.text 0 (omega (arith, z, split x.text)) ∙ targets_have own (variables_of m.state) x p

  pub inside_targets : ReflectsTargets v inner rs targets
  inside_targets = record {
    variables = λ x f owner form q i j. of_added v ns inner E adds (λ x f. f.meaning ≡ meaning.Variable owner form → owner ≡ o → (d : Domain) × ((kind_of_target targets (written x) ≡ Some (kind_of_domain d)) × (form_of form ≡ form_of_domain d)))
        (λ x f q z i j. variables_target t so well y sys o m e targets has_targets x f owner form q i j)
        (each_append (λ x f. f.meaning ≡ meaning.Variable owner form → owner ≡ o → (d : Domain) × ((kind_of_target targets (written x) ≡ Some (kind_of_domain d)) × (form_of form ≡ form_of_domain d)))
        (entries sort.Result [] [] 0 op.results) (entries sort.Parameter [] ds 0 op.parameters)
        (each_entries (λ x f. f.meaning ≡ meaning.Variable owner form → owner ≡ o → (d : Domain) × ((kind_of_target targets (written x) ≡ Some (kind_of_domain d)) × (form_of form ≡ form_of_domain d))) sort.Result [] [] (λ i x q. let no : ⊥ = cc in absurd no) 0 op.results)
        (each_entries (λ x f. f.meaning ≡ meaning.Variable owner form → owner ≡ o → (d : Domain) × ((kind_of_target targets (written x) ≡ Some (kind_of_domain d)) × (form_of form ≡ form_of_domain d))) sort.Parameter [] ds (λ i x q. let no : ⊥ = cc in absurd no) 0 op.parameters))
        x f q i j;
    results = λ x f q i. of_added v ns inner E adds (λ x f. f.meaning ≡ meaning.Result → kind_of_target targets (written x) ≡ Some (given_kind (found x rs)))
        (λ x f q z i. absurd (no_result t so well y sys x f q i))
        (each_append (λ x f. f.meaning ≡ meaning.Result → kind_of_target targets (written x) ≡ Some (given_kind (found x rs))) (entries sort.Result [] [] 0 op.results) (entries sort.Parameter [] ds 0 op.parameters)
        (each_member (λ x f. f.meaning ≡ meaning.Result → kind_of_target targets (written x) ≡ Some (given_kind (found x rs))) sort.Result [] [] op.results
        (λ i x p q. kind_front (map (result_name rs) op.results) (targets_of (map (declared_name own) (variables_of m.state))) (written x.text) (given_kind (found x.text rs)) (results_have rs op.results x p)) 0)
        (each_entries (λ x f. f.meaning ≡ meaning.Result → kind_of_target targets (written x) ≡ Some (given_kind (found x rs))) sort.Parameter [] ds (λ i x q. let no : ⊥ = cc in absurd no) 0 op.parameters))
        x f q i;
  }

  -- ---- the operation

  distinct_there : Distinct (texts ns)
  distinct_there = subst (λ w. Distinct (texts w)) (sym (text_is t well).is) (text_distinct t well)

  new_locals : AreNew (global_names y) (names (map (declared_name ds) op.parameters) ++ result_names (map (result_name rs) op.results))
  new_locals = are_new (global_names y) (names (map (declared_name ds) op.parameters) ++ result_names (map (result_name rs) op.results))
      (written_append (names (map (declared_name ds) op.parameters)) (result_names (map (result_name rs) op.results)) (declared_written ds op.parameters) (results_written rs op.results)) once
    where
      once : (x : List ℕ) → times x (global_names y) + times x (names (map (declared_name ds) op.parameters) ++ result_names (map (result_name rs) op.results)) ≤ 1
      once x =
          let a = new_distinct ns E distinct_there adds.new x in
          let b = count_parts x ns E in
          let c = ap (λ w. count x (texts w)) (text_is t well).is in
          let d = count_parts x reserved (all_entries t) in
          let f = global_times t y sys x in
          let g = times_append x (names (map (declared_name ds) op.parameters)) (result_names (map (result_name rs) op.results)) in
          omega (arith, a, b, c, d, f, g, parameters_times x ds 0 op.parameters, results_times x rs 0 op.results, split x)

  few_locals : length (map (declared_name ds) op.parameters) + length (map (result_name rs) op.results) ≤ 8
  few_locals =
      let a = length-map op.parameters (declared_name ds) in
      let b = length-map op.results (result_name rs) in
      let c = ltb-false 8 (length op.parameters + length op.results) (not_bad _ 22 op.name.place (locals_parts ds op ns locals_clean).2) in
      omega (arith, a, b, c)

  parameter_named : (x : RawName) → Has op.parameters x → named (length inner) x.text (found x.text inner) ≡ Var (written x.text)
  parameter_named x p =
      let f = each_back (λ x f. found x inner ≡ Some f) (entries sort.Result [] [] 0 op.results) (entries sort.Parameter [] ds 0 op.parameters) (added_found v ns inner E adds) in
      let k = each_has (λ x f. found x inner ≡ Some f) sort.Parameter [] ds op.parameters 0 f x p in
      rw k.1 refl

  gives : GivesDomains (set_sizes y) (map (declared_name ds) op.parameters) (maybe_formula v inner op.precondition)
  unfolding declared_name
  gives = by op.precondition (λ x p. parameter_clean x p)
    where
      none : (xs : List RawName) → ((x : RawName) → Has xs x → Clean (domain_faults (found x.text (domains_of v ns None)) x.place)) → GivesDomains (set_sizes y) (map (declared_name (domains_of v ns None)) xs) (maybe_formula v inner None)
      none [] c = tt
      none (x ∷ xs) c = absurd (c x (inl refl)).0

      by : (f : Option RawFormulaTree) → ((x : RawName) → Has op.parameters x → Clean (domain_faults (found x.text (domains_of v ns f)) x.place)) →
          GivesDomains (set_sizes y) (map (declared_name (domains_of v ns f)) op.parameters) (maybe_formula v inner f)
      by None c = none op.parameters c
      by (Some f) c = gives_domains v v ns inner (set_sizes y) stays (knows t so well y sys) f op.parameters c (λ x p. parameter_named x p)

  precondition_typed : TypedFormula (set_sizes y) (PS ++ VS) taken [] (maybe_formula v inner op.precondition)
  precondition_typed = by op.precondition wr.precondition pre_clean
    where
      by : (f : Option RawFormulaTree) → IsWrittenFormula f → Clean (maybe_fault v inner f) → TypedFormula (set_sizes y) (PS ++ VS) taken [] (maybe_formula v inner f)
      by None l c = tt
      by (Some f) l c = formula_good v (set_sizes y) (PS ++ VS) taken f inner [] inside_reflects (omega (arith, l)) c

  pub body_typed : TypedSubst (set_sizes y) targets (PS ++ VS) taken (subst_in v inner op.body)
  body_typed =
      let l = wr.body in
      (walk v (set_sizes y) op.body inner (PS ++ VS) taken inside_reflects inside_reserves [] (omega (arith, l)) body_clean.0).typed rs (leads_self rs) targets inside_targets

  body_fits : Fits (set_sizes y) (subst_in v inner op.body)
  body_fits = fits_so v (set_sizes y) inner op.body inner (PS ++ VS) taken inside_reflects inside_reserves [] [] wr.sides body_clean.0 body_clean.1

  pub result_found : (x : RawName) → Has op.results x → (f : Entry) × ((found x.text inner ≡ Some f) × (f.meaning ≡ meaning.Result))
  result_found x p =
      let f = each_front (λ x f. found x inner ≡ Some f) (entries sort.Result [] [] 0 op.results) (entries sort.Parameter [] ds 0 op.parameters) (added_found v ns inner E adds) in
      let k = each_has (λ x f. found x inner ≡ Some f) sort.Result [] [] op.results 0 f x p in
      (entry meaning.Result x.place, (k.1, refl))

  writes_each : (r : Name × Kind) → Contains (map (result_name rs) op.results) r → always_writes r.0 (subst_in v inner op.body) ≡ true
  unfolding result_name
  writes_each r c =
      let k = made (result_name rs) op.results r c in
      let w = all_written op.body (Some op.name.place) op.results body_clean.2 k.name k.has in
      subst (λ (r : Name × Kind). always_writes r.0 (subst_in v inner op.body) ≡ true) k.is (always_is_always v inner k.name.text op.body w)

  kinds_each : (r : Name × Kind) → Contains (map (result_name rs) op.results) r → is_of_kind (result_form (assigned_form (set_sizes y) r.0 (PS ++ VS) (subst_in v inner op.body))) r.1 ≡ true
  unfolding result_name
  kinds_each r c =
      let k = made (result_name rs) op.results r c in
      let f = result_found k.name k.has in
      let l = wr.body in
      let g = kept v k.name.text f.0 f.1.1 (set_sizes y) op.body inner (PS ++ VS) taken inside_reflects inside_reserves f.1.0 [] (omega (arith, l)) body_clean.0 in
      subst (λ (r : Name × Kind). is_of_kind (result_form (assigned_form (set_sizes y) r.0 (PS ++ VS) (subst_in v inner op.body))) r.1 ≡ true) k.is
      (ends (found k.name.text rs) (assigned_form (set_sizes y) (written k.name.text) (PS ++ VS) (subst_in v inner op.body)) g.at)

  pub typed_operation : TypedOperation y (machine_in (known_in t.machines) ns o m) (operation_in v ns op)
  unfolding machine_in machine_with operation_in operation_inside operation_with
  typed_operation = record {
    new_names = new_locals;
    few_names = few_locals;
    domains = gives;
    precondition = precondition_typed;
    body = body_typed;
    body_fits = body_fits;
    writes_results = writes_each;
    result_kinds = kinds_each;
  }
