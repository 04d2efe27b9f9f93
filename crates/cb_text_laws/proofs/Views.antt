-- The names of a whole text, as a machine sees them, stand for what the names of typed terms stand for.
use Rattle.std.proofs.Common.{◌≡◌, ◌≢◌, ℕ, ◌+◌, ◌<◌, ◌||◌, Bool, true, false, List, [], ◌∷◌, ◌++◌, length, Option, Some, None, refl, sym, ap, ◌∙◌, subst, true≢false, arith, slice_get}
use Rattle.std.proofs.lemmas.Option.{same_Some}
use Rattle.std.proofs.lemmas.Bool.{eqb-true}
use Rattle.std.proofs.lemmas.List.{length-map}
use Rattle.cb_lex.specs.declared.raw.name.RawName.{RawName}
use Rattle.cb_lex.specs.declared.raw.text.RawMachine.{RawMachine}
use Rattle.cb_lex.specs.declared.raw.text.RawChannel.{RawChannel}
use Rattle.cb_lex.specs.declared.raw.text.RawController.{RawController}
use Rattle.cb_lex.specs.declared.raw.text.RawText.{RawText}
use Rattle.cb_lex.specs.declared.raw.text.RawState.{RawState}
use Rattle.cb_term.specs.declared.name.Name.{Name}
use Rattle.cb_term.specs.declared.kind.Domain.{Domain}
use Rattle.cb_term.specs.declared.kind.Kind.{Kind}
use Rattle.cb_term.specs.declared.table.SetNames.{SetNames}
use Rattle.cb_spec.specs.declared.system.System.{System}
use Rattle.cb_spec.specs.Bound.{is_among}
use Rattle.cb_spec.specs.Domains.{kind_of_domain}
use Rattle.cb_spec.specs.Forms.{form_of_domain}
use Rattle.cb_spec.specs.Journals.{set_sizes}
use Rattle.cb_spec.specs.Typed.{global_names}
use Rattle.cb_spec.specs.TypedSubsts.{kind_of_target}
use Rattle.cb_spec.specs.TypedTerms.{Scope}
use Rattle.cb_spec.specs.TypedTerms as typed
use Rattle.cb_forms.specs.declared.form.Form.{Form as Known}
use Rattle.cb_forms.specs.Find.{found, is_in}
use Rattle.cb_forms.specs.Kinds.{form_of}
use Rattle.cb_judge.specs.declared.names.Entry.{Entry}
use Rattle.cb_judge.specs.declared.names.Meaning.TheVariants as meaning
use Rattle.cb_judge.specs.declared.names.View.{View}
use Rattle.cb_judge.specs.Meanings.{Names}
use Rattle.cb_judge.specs.Choices.{form_or_nought}
use Rattle.cb_judge.specs.Judged.{entry}
use Rattle.cb_normal.specs.Normal.{written, domain_or}
use Rattle.cb_normal.specs.NormalSubsts.{any}
use Rattle.cb_types.specs.declared.declare.Sort.TheVariants as sort
use Rattle.cb_types.specs.Declares.{next, domains_of, own_domains, invariant_of, variables_of, view_of, inner_view, domain_faults, reserved}
use Rattle.cb_types.specs.NormalMachines.{sets_of, known_in}
use Rattle.cb_text_laws.specs.WholeText.{WellFormedButEnds, IsSystemOf}
use Rattle.cb_typing.specs.WrittenText.{FitsNumbers}
use Rattle.cb_text_laws.specs.SpelledText.{IsSpelledText}
use Rattle.cb_typing.specs.Reflects.{IsProper, Stands, Means, IsKnown, Reflects, Reserves}
use Rattle.cb_typing.proofs.Clean.{Clean}
use Rattle.cb_typing.proofs.Lookups.{found_front, found_back}
use Rattle.cb_typing.proofs.Counts.{FoundIn, each_append, count, texts, none_counts, counts_none, Each, each_found, times, times_append, among_times}
use Rattle.cb_typing.proofs.Domains.{KnowsSets, size_of}
use Rattle.cb_typing.proofs.Declared.{variable_entries}
use Rattle.cb_typing.proofs.Globals.{count_parts}
use Rattle.cb_typing.proofs.Views.{Declares, machine_declares, variable_clean}
use Rattle.cb_text_laws.specs.TextNames.{text_names}
use Rattle.cb_text_laws.proofs.Globals.{machine_part, outer_part, all_entries, channel_entries, controller_entries, globals_clean, text_is, text_distinct, all_found, global_times, known_stays}
use Rattle.cb_typing.proofs.Entries.{Sets, Rest, Window, lengths, text_each, each_entries, each_front, each_back, each_machine}
use Rattle.cb_typing.proofs.Inside.{each_has}
use Rattle.cb_typing.proofs.Members.{Has, each_member, nought_form, HasDomain, has_domain}

-- ---- channels and controllers

-- channels and controllers are so
pub record Outer (P : List ℕ → Entry → Type 0) : Type 0 where
  pub channel : (x : RawName) (k : ℕ) → P x.text (entry (meaning.Channel k) x.place)
  pub controller : (x : RawName) (k : ℕ) → P x.text (entry (meaning.Controller k) x.place)

module _ (P : List ℕ → Entry → Type 0) (o : Outer P) where
  channels_each : (k : ℕ) (cs : List RawChannel) → Each P (channel_entries k cs)
  channels_each k [] = tt
  channels_each k (c ∷ cs) = (o.channel c.name k, channels_each (next k) cs)

  controllers_each : (k : ℕ) (cs : List RawController) → Each P (controller_entries k cs)
  controllers_each k [] = tt
  controllers_each k (c ∷ cs) = (o.controller c.name k, controllers_each (next k) cs)

  outer_each : (t : RawText) → Each P (outer_part t)
  outer_each t = each_append P (channel_entries 0 t.channels) (controller_entries 0 t.controllers) (channels_each 0 t.channels) (controllers_each 0 t.controllers)

-- ---- the whole text

module _ (t : RawText) (so : IsSpelledText t) (well : WellFormedButEnds t) (y : System) (sys : IsSystemOf t y) where
  abbrev D : Names
  D = all_entries t

  sizes_are : set_sizes y ≡ lengths (sets_of t.machines)
  sizes_are = ap lengths sys.sets

  window : Window (set_sizes y) 0 (lengths (sets_of t.machines))
  window i n e = let q : 0 + i ≡ i = omega arith in ap (slice_get (set_sizes y)) q ∙ ap (λ l. slice_get l i) sizes_are ∙ e

  fits_sets : FitsNumbers (length (set_sizes y))
  fits_sets = let q = ap length sizes_are ∙ length-map (sets_of t.machines) (λ (s : SetNames). length s.elements) in let l = so.machines.few_sets in omega (arith, q, l)

  fits_machines : FitsNumbers (0 + length t.machines)
  fits_machines = let l = so.machines.few_machines in omega (arith, l)

  -- what is so of each entry is so of what is found
  of_each : (P : List ℕ → Entry → Type 0) → Each P D → ((e : Entry) → e.meaning ≡ meaning.Reserved → P any.text e) → (x : List ℕ) (e : Entry) → found x (text_names t) ≡ Some e → P x e
  of_each P h r x e i = each_found P (reserved ++ D) (r _ refl, h) x e (ap (found x) (sym (text_is t well).is) ∙ i)

  each_of : (P : List ℕ → Entry → Type 0) (s : Sets P (set_sizes y)) → Rest P (set_sizes y) fits_sets s (known_in t.machines) 0 t.machines → Outer P → Each P D
  each_of P s r o = each_append P (machine_part t) (outer_part t) (text_each P (set_sizes y) fits_sets s (known_in t.machines) t.machines 0 0 window fits_machines so.machines.machines r) (outer_each P o t)

  pub reserves : Reserves (text_names t)
  reserves =
      let e = entry meaning.Reserved (record { line = 0; col = 0 }) in
      (e, (ap (found any.text) (text_is t well).is ∙ found_front any.text e reserved D refl, refl))

  -- ---- names in use are known

  not_reserved : Each (λ x e. e.meaning ≢ meaning.Reserved) D
  not_reserved = each_of (λ x e. e.meaning ≢ meaning.Reserved) (record { set = λ x o k n e l q. let no : ⊥ = cc in no; element = λ x o k n i e l q. let no : ⊥ = cc in no }) (record {
    machine = λ x o q. let no : ⊥ = cc in no;
    constant = λ x o n q. let no : ⊥ = cc in no;
    variables = λ i m e. each_entries (λ x e. e.meaning ≢ meaning.Reserved) (sort.Variable (0 + i)) [] (own_domains (known_in t.machines) (0 + i) m) (λ j x q. let no : ⊥ = cc in no) 0 (variables_of m.state);
  }) (record { channel = λ x k q. let no : ⊥ = cc in no; controller = λ x k q. let no : ⊥ = cc in no })

  pub global_known : (x : List ℕ) → 0 < times x (global_names y) → IsKnown (text_names t) x
  global_known x h = at (found x D) refl
    where
      many : 0 < count x (texts D)
      many = let q = global_times t y sys x in omega (arith, q, h)

      outside : found x reserved ≡ None
      outside =
          let a = text_distinct t well x in
          let b = count_parts x reserved D in
          let z : count x (texts reserved) ≡ 0 = omega (arith, a, b, many) in
          counts_none x reserved z

      at : (o : Option Entry) → found x D ≡ o → IsKnown (text_names t) x
      at None q = let z = none_counts x D q in absurd (omega (arith, z, many))
      at (Some e) q = (e, ap (found x) (text_is t well).is ∙ found_back x reserved D outside ∙ q, each_found (λ x e. e.meaning ≢ meaning.Reserved) D not_reserved x e q)

  -- ---- sets are known

  IsSetKnown : List ℕ → Entry → Type 0
  IsSetKnown x e = (owner set size : ℕ) → e.meaning ≡ meaning.Set owner set size → (slice_get (set_sizes y) set ≡ Some size) × (0 < size)

  sets_known : Each IsSetKnown D
  unfolding IsSetKnown
  sets_known = each_of IsSetKnown (record {
    set = λ x o k n e l owner set size q. let i : k ≡ set = cc in let j : n ≡ size = cc in (ap (slice_get (set_sizes y)) (sym i) ∙ e ∙ ap Some j, subst (λ n. 0 < n) j l);
    element = λ x o k n i e l owner set size q. let no : ⊥ = cc in absurd no;
  }) (record {
    machine = λ x o owner set size q. let no : ⊥ = cc in absurd no;
    constant = λ x o n owner set size q. let no : ⊥ = cc in absurd no;
    variables = λ i m e. each_entries IsSetKnown (sort.Variable (0 + i)) [] (own_domains (known_in t.machines) (0 + i) m) (λ j x owner set size q. let no : ⊥ = cc in absurd no) 0 (variables_of m.state);
  }) (record { channel = λ x k owner set size q. let no : ⊥ = cc in absurd no; controller = λ x k owner set size q. let no : ⊥ = cc in absurd no })

  pub knows : KnowsSets (set_sizes y) (text_names t)
  unfolding IsSetKnown
  knows x e owner set size h q = of_each IsSetKnown sets_known (λ e r owner set size q. let no : ⊥ = cc in absurd no) x e h owner set size q

  pub knows_before : KnowsSets (set_sizes y) (known_in t.machines)
  knows_before x e owner set size h q = knows x e owner set size (known_stays t well x e h) q

  -- ---- variables have domains

  pub declares : (o : ℕ) (m : RawMachine) → slice_get t.machines o ≡ Some m → Declares (known_in t.machines) o m
  declares o m e = let q : 0 + o ≡ o = omega arith in subst (λ o. Declares (known_in t.machines) o m) q (machine_declares (known_in t.machines) t.machines 0 0 reserved fits_machines (globals_clean t well) o m e)

  pub variable_domain : (o : ℕ) (m : RawMachine) → slice_get t.machines o ≡ Some m → (x : RawName) → Has (variables_of m.state) x → HasDomain (set_sizes y) (found x.text (own_domains (known_in t.machines) o m))
  variable_domain o m e x h = by m.state h (variable_clean (known_in t.machines) o m (declares o m e) x h)
    where
      by : (s : Option RawState) → Has (variables_of s) x → Clean (domain_faults (found x.text (domains_of (view_of (known_in t.machines) o m) (known_in t.machines) (invariant_of s))) x.place) →
          HasDomain (set_sizes y) (found x.text (domains_of (view_of (known_in t.machines) o m) (known_in t.machines) (invariant_of s)))
      by None h c = absurd h
      by (Some s) h c = has_domain (view_of (known_in t.machines) o m) (view_of (known_in t.machines) o m) (known_in t.machines) (text_names t) (set_sizes y) (known_stays t well) knows_before s.invariant x c

  -- ---- views

  or_none : (b : Bool) → (b || false) ≡ true → b ≡ true
  or_none true e = refl
  or_none false e = e

  same_machine : (o i : ℕ) (m n : RawMachine) → slice_get t.machines o ≡ Some m → slice_get t.machines i ≡ Some n → 0 + i ≡ o → n ≡ m
  same_machine o i m n e h q = let j : i ≡ o = omega (arith, q) in same_Some n m (sym h ∙ ap (slice_get t.machines) j ∙ e)

  -- the scope has the machine's variables
  abbrev pub HasVariables : Scope → ℕ → RawMachine → Type 0
  HasVariables scope o m = (x : RawName) → Has (variables_of m.state) x → typed.form_in scope (written x.text) ≡ Some (form_of_domain (domain_or (found x.text (own_domains (known_in t.machines) o m))))

  module _ (v : View) (scope : Scope) (n : ℕ) where
    MeansHere : List ℕ → Entry → Type 0
    MeansHere x e = Means v (set_sizes y) scope [] n x e.meaning

    sets_mean : Sets MeansHere (set_sizes y)
    unfolding MeansHere
    sets_mean = record {
      set = λ x o k size e l. (e, l);
      element = λ x o k size i e l. let q = size_of (set_sizes y) k size e in subst (λ n. i < n) (sym q) l;
    }

    -- each name means the same where the variables that are read do
    pub means_here : ((i : ℕ) (m : RawMachine) → slice_get t.machines i ≡ Some m → (x : RawName) → Has (variables_of m.state) x → is_in (0 + i) v.reads ≡ true →
        Stands v (set_sizes y) scope [] x.text (form_or_nought (found x.text (own_domains (known_in t.machines) (0 + i) m)))) →
        (x : List ℕ) (e : Entry) → found x (text_names t) ≡ Some e → Means v (set_sizes y) scope [] n x e.meaning
    unfolding MeansHere
    means_here w x e h = of_each MeansHere (each_of MeansHere sets_mean (record {
      machine = λ x o. tt;
      constant = λ x o n. tt;
      variables = λ i m e. each_member MeansHere (sort.Variable (0 + i)) [] (own_domains (known_in t.machines) (0 + i) m) (variables_of m.state) (λ j x h r. w i m e x h r) 0;
    }) (record { channel = λ x k. tt; controller = λ x k. tt })) (λ e r. subst (λ m. Means v (set_sizes y) scope [] n any.text m) (sym r) tt) x e h

  -- the variables of the machine stand in the scope
  own_variables : (v : View) (o : ℕ) (m : RawMachine) → slice_get t.machines o ≡ Some m → (scope : Scope) → HasVariables scope o m → v.reads ≡ o ∷ [] → (i : ℕ) (n : RawMachine) → slice_get t.machines i ≡ Some n → (x : RawName) → Has (variables_of n.state) x →
      is_in (0 + i) v.reads ≡ true → Stands v (set_sizes y) scope [] x.text (form_or_nought (found x.text (own_domains (known_in t.machines) (0 + i) n)))
  own_variables v o m e scope w r i n h x p q =
      let k : 0 + i ≡ o = eqb-true (0 + i) o (or_none _ (ap (is_in (0 + i)) (sym r) ∙ q)) in
      let j = same_machine o i m n e h k in
      let p' : Has (variables_of m.state) x = subst (λ (n : RawMachine). Has (variables_of n.state) x) j p in
      let d = variable_domain o m e x p' in
      let f = nought_form (found x.text (own_domains (known_in t.machines) o m)) in
      subst (λ (n : RawMachine). Stands v (set_sizes y) scope [] x.text (form_or_nought (found x.text (own_domains (known_in t.machines) (0 + i) n)))) (sym j)
      (subst (λ o. Stands v (set_sizes y) scope [] x.text (form_or_nought (found x.text (own_domains (known_in t.machines) o m)))) (sym k) (w x p' ∙ ap Some (sym f), subst IsProper (sym f) d.proper))

  pub known_here : (x : List ℕ) → is_among (written x) (global_names y ++ []) ≡ true → IsKnown (text_names t) x
  known_here x h = let t = among_times x (global_names y ++ []) h in let a = times_append x (global_names y) [] in global_known x (omega (arith, t, a))

  -- inside a machine
  pub inner_reflects : (o : ℕ) (m : RawMachine) → slice_get t.machines o ≡ Some m → (scope : Scope) → HasVariables scope o m → Reflects (inner_view (known_in t.machines) o m) (text_names t) (set_sizes y) scope (global_names y) []
  inner_reflects o m e scope w = record {
    known = known_here;
    means = means_here (inner_view (known_in t.machines) o m) scope (length (text_names t)) (own_variables (inner_view (known_in t.machines) o m) o m e scope w refl);
  }

  -- in an initialisation, where no variable is read
  pub start_reflects : (o : ℕ) (m : RawMachine) → Reflects (view_of (known_in t.machines) o m) (text_names t) (set_sizes y) [] (global_names y) []
  start_reflects o m = record {
    known = known_here;
    means = means_here (view_of (known_in t.machines) o m) [] (length (text_names t)) (λ i n e x h q. absurd (true≢false (sym q)));
  }

  -- ---- targets

  -- the targets have the machine's variables
  abbrev pub HasTargets : List (Name × Kind) → ℕ → RawMachine → Type 0
  HasTargets targets o m = (x : RawName) → Has (variables_of m.state) x → kind_of_target targets (written x.text) ≡ Some (kind_of_domain (domain_or (found x.text (own_domains (known_in t.machines) o m))))

  module _ (o : ℕ) (m : RawMachine) (e : slice_get t.machines o ≡ Some m) (targets : List (Name × Kind)) (w : HasTargets targets o m) where
    IsTarget : List ℕ → Entry → Type 0
    IsTarget x e = (owner : ℕ) (form : Known) → e.meaning ≡ meaning.Variable owner form → owner ≡ o → (d : Domain) × ((kind_of_target targets (written x) ≡ Some (kind_of_domain d)) × (form_of form ≡ form_of_domain d))

    own_target : (i : ℕ) (n : RawMachine) → slice_get t.machines i ≡ Some n → (x : RawName) → Has (variables_of n.state) x → (owner : ℕ) (form : Known) →
        meaning.Variable (0 + i) (form_or_nought (found x.text (own_domains (known_in t.machines) (0 + i) n))) ≡ meaning.Variable owner form → owner ≡ o → (d : Domain) × ((kind_of_target targets (written x.text) ≡ Some (kind_of_domain d)) × (form_of form ≡ form_of_domain d))
    own_target i n h x p owner form q r =
        let a : 0 + i ≡ owner = cc in
        let b : form_or_nought (found x.text (own_domains (known_in t.machines) (0 + i) n)) ≡ form = cc in
        let k : 0 + i ≡ o = a ∙ r in
        let j = same_machine o i m n e h k in
        let p' : Has (variables_of m.state) x = subst (λ (n : RawMachine). Has (variables_of n.state) x) j p in
        let c : form_or_nought (found x.text (own_domains (known_in t.machines) (0 + i) n)) ≡ form_or_nought (found x.text (own_domains (known_in t.machines) o m)) =
        ap (λ (n : RawMachine). form_or_nought (found x.text (own_domains (known_in t.machines) (0 + i) n))) j ∙ ap (λ o. form_or_nought (found x.text (own_domains (known_in t.machines) o m))) k in
        (domain_or (found x.text (own_domains (known_in t.machines) o m)), (w x p', ap form_of (sym b ∙ c) ∙ nought_form (found x.text (own_domains (known_in t.machines) o m))))

    pub variables_target : (x : List ℕ) (e : Entry) (owner : ℕ) (form : Known) → found x (text_names t) ≡ Some e → e.meaning ≡ meaning.Variable owner form → owner ≡ o → (d : Domain) × ((kind_of_target targets (written x) ≡ Some (kind_of_domain d)) × (form_of form ≡ form_of_domain d))
    unfolding IsTarget
    variables_target x e owner form h q r = of_each IsTarget (each_of IsTarget (record {
      set = λ x o k n e l owner form q. let no : ⊥ = cc in absurd no;
      element = λ x o k n i e l owner form q. let no : ⊥ = cc in absurd no;
    }) (record {
      machine = λ x o owner form q. let no : ⊥ = cc in absurd no;
      constant = λ x o n owner form q. let no : ⊥ = cc in absurd no;
      variables = λ i n h. each_member IsTarget (sort.Variable (0 + i)) [] (own_domains (known_in t.machines) (0 + i) n) (variables_of n.state) (λ j x p owner form q r. own_target i n h x p owner form q r) 0;
    }) (record { channel = λ x k owner form q. let no : ⊥ = cc in absurd no; controller = λ x k owner form q. let no : ⊥ = cc in absurd no })) (λ e s owner form q. let no : ⊥ = cc in absurd no) x e h owner form q r

  -- ---- no global name is a result

  pub no_result : (x : List ℕ) (e : Entry) → found x (text_names t) ≡ Some e → e.meaning ≡ meaning.Result → ⊥
  no_result x e h = of_each (λ x e. e.meaning ≡ meaning.Result → ⊥) (each_of (λ x e. e.meaning ≡ meaning.Result → ⊥) (record { set = λ x o k n e l q. let no : ⊥ = cc in no; element = λ x o k n i e l q. let no : ⊥ = cc in no }) (record {
    machine = λ x o q. let no : ⊥ = cc in no;
    constant = λ x o n q. let no : ⊥ = cc in no;
    variables = λ i m e. each_entries (λ x e. e.meaning ≡ meaning.Result → ⊥) (sort.Variable (0 + i)) [] (own_domains (known_in t.machines) (0 + i) m) (λ j x q. let no : ⊥ = cc in no) 0 (variables_of m.state);
  }) (record { channel = λ x k q. let no : ⊥ = cc in no; controller = λ x k q. let no : ⊥ = cc in no })) (λ e r q. let no : ⊥ = cc in no) x e h

  -- ---- variables are found

  pub variable_found : (o : ℕ) (m : RawMachine) → slice_get t.machines o ≡ Some m → (x : RawName) → Has (variables_of m.state) x →
      (e : Entry) × ((found x.text (text_names t) ≡ Some e) × (e.meaning ≡ meaning.Variable o (form_or_nought (found x.text (own_domains (known_in t.machines) o m)))))
  variable_found o m e x p =
      let there : FoundIn (text_names t) (reserved ++ D) = all_found t well in
      let q : 0 + o ≡ o = omega arith in
      let mine : Each (λ x f. found x (text_names t) ≡ Some f) (variable_entries (known_in t.machines) o m) =
      subst (λ o. Each (λ x f. found x (text_names t) ≡ Some f) (variable_entries (known_in t.machines) o m)) q
      (each_machine (λ x f. found x (text_names t) ≡ Some f) (known_in t.machines) t.machines 0 0 fits_machines (each_front (λ x f. found x (text_names t) ≡ Some f) (machine_part t) (outer_part t) (each_back (λ x f. found x (text_names t) ≡ Some f) reserved D there)) o m e) in
      let k = each_has (λ x f. found x (text_names t) ≡ Some f) (sort.Variable o) [] (own_domains (known_in t.machines) o m) (variables_of m.state) 0 mine x p in
      (entry (meaning.Variable o (form_or_nought (found x.text (own_domains (known_in t.machines) o m)))) x.place, (k.1, refl))
