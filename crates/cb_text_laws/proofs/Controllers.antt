-- Definitions and controllers without a fault are typed.
use Rattle.std.proofs.Common.{◌≡◌, ℕ, ℤ, zero, suc, ◌+◌, ◌≤◌, ◌<◌, ◌^◌, pos, neg_ℤ, Bool, true, false, inl, inr, List, [], ◌∷◌, ◌++◌, map, length, Option, Some, None, is_some, refl, sym, ap, ◌∙◌, subst, true≢false, if◌then◌else◌, arith, slice_get, get_or, Contains, nat_lt}
use Rattle.std.specs.Ordering.{int_eq}
use Rattle.std.proofs.lemmas.Int.{ints}
use Rattle.std.proofs.lemmas.Bool.Decides.{Decides-int_eq}
use Rattle.std.proofs.lemmas.Bool.{ltb-false}
use Rattle.std.proofs.lemmas.List.{length-map}
use Rattle.std.proofs.lemmas.Option.{same_Some}
use Rattle.cb_lex.specs.declared.token.Place.{Place}
use Rattle.cb_lex.specs.declared.raw.domain.RawDomain.{RawDomain}
use Rattle.cb_lex.specs.declared.raw.domain.RawDomain.TheVariants as raw_domain
use Rattle.cb_lex.specs.declared.raw.domain.RawParam.{RawParam}
use Rattle.cb_lex.specs.declared.raw.domain.RawParam.TheVariants as param
use Rattle.cb_lex.specs.declared.raw.name.RawName.{RawName}
use Rattle.cb_lex.specs.declared.raw.sign.RawAtom.TheVariants as atom
use Rattle.cb_lex.specs.declared.raw.text.RawChannel.{RawChannel}
use Rattle.cb_lex.specs.declared.raw.text.RawController.{RawController}
use Rattle.cb_lex.specs.declared.raw.text.RawDefinition.{RawDefinition}
use Rattle.cb_lex.specs.declared.raw.text.RawMachine.{RawMachine}
use Rattle.cb_lex.specs.declared.raw.text.RawText.{RawText}
use Rattle.cb_lex.specs.RawTermTree.{RawTermTree, Number, Name as NameTerm, Atom, Minus, Listed, RawTerms, End, More}
use Rattle.cb_term.specs.declared.name.Name.{Name}
use Rattle.cb_term.specs.Tree as tree
use Rattle.cb_term.specs.Tree.{TermTree}
use Rattle.cb_spec.specs.declared.system.Controller.{Controller}
use Rattle.cb_spec.specs.declared.system.Definition.{Definition}
use Rattle.cb_spec.specs.declared.system.System.{System}
use Rattle.cb_spec.specs.Bound.{names}
use Rattle.cb_spec.specs.Forms.{Form, form_of_domain, IsSmall}
use Rattle.cb_spec.specs.Forms as form
use Rattle.cb_spec.specs.ProcessTree.{Call as tree_call}
use Rattle.cb_spec.specs.Journals.{set_sizes}
use Rattle.cb_spec.specs.States.{IsAt}
use Rattle.cb_spec.specs.Typed.{global_names, HaveDomains, AllBelow, IsPlainItem, ArePlainItems, IsPlain, TypedDefinition, TypedController}
use Rattle.cb_spec.specs.TypedProcesses.{AreNew, scope_of, TypedProcess}
use Rattle.cb_forms.specs.declared.form.Form.{Form as Known}
use Rattle.cb_forms.specs.Find.{found, inside}
use Rattle.cb_forms.specs.Kinds.{size_fault, with_item}
use Rattle.cb_judge.specs.declared.domain.Choice.{Choice}
use Rattle.cb_judge.specs.declared.names.Entry.{Entry}
use Rattle.cb_judge.specs.declared.names.Meaning.{Meaning}
use Rattle.cb_judge.specs.declared.names.Meaning.TheVariants as meaning
use Rattle.cb_judge.specs.declared.names.View.{View}
use Rattle.cb_judge.specs.Meanings.{Names, known_set}
use Rattle.cb_judge.specs.Choices.{subset_of, element_sets_of, bound_of}
use Rattle.cb_judge.specs.Judged.{place_of, form_in, fault_in, fault_from}
use Rattle.cb_judge.specs.Substs.{chosen_form}
use Rattle.cb_normal.specs.Normal.{domain_or, meaning_term, named, minus, term_in, terms_in}
use Rattle.cb_types.specs.declared.declare.Sort.TheVariants as sort
use Rattle.cb_types.specs.Declares.{Domains, next, with_choice, declare_fault, domain_faults}
use Rattle.cb_types.specs.MachineFaults.{Seen, with_seen, maybe_fault}
use Rattle.cb_types.specs.NormalMachines.{known_in, written_name, declared_name}
use Rattle.cb_typing.specs.WrittenText.{FitsNumbers}
use Rattle.cb_typing.specs.Reflects.{Reflects}
use Rattle.cb_typing.proofs.Clean.{Clean, not_bad, is_good}
use Rattle.cb_typing.proofs.Counts.{Each, each_append, each_found, texts, count, AllNew, new_distinct, times, AreWritten, are_new}
use Rattle.cb_typing.proofs.Domains.{KnowsSets, known_set_is, IsSized, is_whole, domain_sized}
use Rattle.cb_typing.proofs.Entries.{next_is}
use Rattle.cb_typing.proofs.Globals.{hit_same}
use Rattle.cb_typing.proofs.Lookups.{inside_new}
use Rattle.cb_typing.proofs.Members.{Has, member_sort, HasDomain}
use Rattle.cb_typing.proofs.Signs.{size_small}
use Rattle.cb_text_laws.specs.TextNames.{text_names, view_with, outer_view, own_machines}
use Rattle.cb_text_laws.specs.Signatures.{forms_of, subset_in, param_name, param_choice, parameters_from, parameter_domains, parameter_names, parameters_of, inside_definition, Definitions}
use Rattle.cb_text_laws.specs.ProcessFaults.{arguments_fault, call_fault, process_fault}
use Rattle.cb_text_laws.specs.SilentFaults.{Costs, cost, costs_of, after_fault, silent_fault}
use Rattle.cb_text_laws.specs.ControllerFaults.{param_fault, params_fault, parameters_fault, definition_names_fault, is_value_meaning, is_value_name, is_plain_item, are_plain_items, is_plain, plain_fault, start_count_fault, start_fault, definition_fault, definitions_fault, table_of, controller_fault}
use Rattle.cb_text_laws.specs.NormalProcesses.{arguments_in, definition_number, process_in}
use Rattle.cb_text_laws.specs.NormalTexts.{order_in, position, definition_with, definition_in, controller_with, controller_in}
use Rattle.cb_text_laws.specs.SpelledText.{IsSpelledText, IsWrittenDefinition, AreWrittenDefinitions, IsWrittenController}
use Rattle.cb_text_laws.specs.WholeText.{WellFormedButEnds, IsSystemOf}
use Rattle.cb_text_laws.proofs.Calls.{results_are}
use Rattle.cb_text_laws.proofs.Channels.{maybe_typed}
use Rattle.cb_text_laws.proofs.Locals.{domains_bound, declared_locals, declared_bound}
use Rattle.cb_text_laws.proofs.Outside.{outer_reflects, machines_scope, owner_reflects}
use Rattle.cb_text_laws.proofs.Processes.{Rights, Over, over_global, over_locals, definition_called, process_typed}
use Rattle.cb_spec.specs.Silent.{prefixes}
use Rattle.cb_text_laws.proofs.Prefixes.{prefixes_are}
use Rattle.cb_text_laws.proofs.Silent.{both_true, operands_fit, calls_later, DefinitionsClean, few_ways, few_after}
use Rattle.cb_text_laws.proofs.Tables.{map_slot}
use Rattle.cb_text_laws.proofs.Views.{knows}

-- ---- domains of parameters

-- what is so of each domain of a parameter without a fault
abbrev Fine : List ℕ → Choice → Type 0
Fine sizes c = IsSized sizes c.domain c.size × IsSmall (form_of_domain c.domain)

module _ (sizes : List ℕ) (v : View) (ns : Names) (knows : KnowsSets sizes ns) where
  subset_sized : (d : RawDomain) (c : Choice) → subset_in v ns d ≡ Some c → IsSized sizes c.domain c.size
  subset_sized (raw_domain.Range low high) c e = by (bound_of v ns low) (bound_of v ns high) e
    where
      by : (a b : Option ℤ) → subset_of a b ≡ Some c → IsSized sizes c.domain c.size
      by (Some lo) (Some hi) e = let q = same_Some _ c e in subst (λ (c : Choice). IsSized sizes c.domain c.size) q tt
      by None b e = let no : ⊥ = cc in absurd no
      by (Some lo) None e = let no : ⊥ = cc in absurd no
  subset_sized (raw_domain.Name x) c e = by (known_set v (found x.text ns)) refl e
    where
      by : (o : Option (ℕ × ℕ)) → known_set v (found x.text ns) ≡ o → element_sets_of o ≡ Some c → IsSized sizes c.domain c.size
      by None q e = let no : ⊥ = cc in absurd no
      by (Some s) q e =
          let k = known_set_is v (found x.text ns) s q in
          let i = same_Some _ c e in
          subst (λ (c : Choice). IsSized sizes c.domain c.size) i (knows x.text k.by k.owner s.0 s.1 k.is k.means)
  subset_sized (raw_domain.Nat p) c e = let no : ⊥ = cc in absurd no
  subset_sized (raw_domain.Nat1 p) c e = let no : ⊥ = cc in absurd no
  subset_sized (raw_domain.Int p) c e = let no : ⊥ = cc in absurd no
  subset_sized (raw_domain.Truths p) c e = let no : ⊥ = cc in absurd no

  param_fine : (p : RawParam) (c : Choice) → Clean (param_fault v ns p) → param_choice v ns p ≡ Some c → Fine sizes c
  param_fine (param.Member x d) c h e = ((domain_sized v ns sizes knows d c e).0, size_small (form_of_domain c.domain) x.place (subst (λ o. Clean (size_fault (chosen_form o) x.place)) e h.1))
  param_fine (param.Subset x d) c h e = (subset_sized d c e, size_small (form_of_domain c.domain) x.place (subst (λ o. Clean (size_fault (chosen_form o) x.place)) e h.1))

  each_inside : (P : List ℕ → Choice → Type 0) (x : List ℕ) (c : Choice) (ds : Domains) → Each P ds → P x c → Each P (inside x c ds)
  each_inside P x c ds h p = by (is_some (found x ds))
    where
      by : (b : Bool) → Each P (if b then ds else ds ++ (x, c) ∷ [])
      by true = h
      by false = each_append P ds ((x, c) ∷ []) h (p, tt)

  params_fine : (ps : List RawParam) (ds : Domains) → Clean (params_fault v ns ps) → Each (λ x c. Fine sizes c) ds → Each (λ x c. Fine sizes c) (parameters_from v ns ds ps)
  params_fine [] ds h k = k
  params_fine (p ∷ ps) ds h k = params_fine ps (with_choice (param_name p).text (param_choice v ns p) ds) h.1 (by (param_choice v ns p) refl)
    where
      by : (o : Option Choice) → param_choice v ns p ≡ o → Each (λ x c. Fine sizes c) (with_choice (param_name p).text o ds)
      by None e = k
      by (Some c) e = each_inside (λ x c. Fine sizes c) (param_name p).text c ds k (param_fine p c h.0 e)

-- what is so of a parameter's domain
record FineDomain (sizes : List ℕ) (o : Option Choice) : Type 0 where
  domain : HasDomain sizes o
  small : IsSmall (form_of_domain (domain_or o))

fine_domain : (sizes : List ℕ) (ds : Domains) → Each (λ x c. Fine sizes c) ds → (x : RawName) → Clean (domain_faults (found x.text ds) x.place) → FineDomain sizes (found x.text ds)
fine_domain sizes ds h x k = by (found x.text ds) refl k
  where
    by : (o : Option Choice) → found x.text ds ≡ o → Clean (domain_faults o x.place) → FineDomain sizes o
    by None e k = absurd k.0
    by (Some c) e k =
        let f = each_found (λ x c. Fine sizes c) ds h x.text c e in
        let w = is_whole sizes c x.place f.0 k in
        record { domain = record { is = w.0; proper = w.1 }; small = f.1 }

have_domains : (sizes : List ℕ) (ds : Domains) (xs : List RawName) → ((x : RawName) → Has xs x → FineDomain sizes (found x.text ds)) → HaveDomains sizes (map (declared_name ds) xs)
unfolding declared_name
have_domains sizes ds [] h = tt
have_domains sizes ds (x ∷ xs) h = let f = h x (inl refl) in (f.domain.is, f.small, have_domains sizes ds xs (λ z m. h z (inr m)))

-- ---- START's arguments

literal_plain : (n : ℤ) (p : Place) → Clean (size_fault (Some (form.Number n n)) p) → IsPlainItem (minus (tree.Num n))
literal_plain n p h = by (int_eq n (neg_ℤ (pos (2 ^ 63)))) refl
  where
    by : (b : Bool) → int_eq n (neg_ℤ (pos (2 ^ 63))) ≡ b → IsPlainItem (if b then tree.Neg (tree.Num n) else tree.Num (neg_ℤ n))
    by true q = let s = (size_small (form.Number n n) p h).0 in let i = (Decides-int_eq n (neg_ℤ (pos (2 ^ 63)))).0 q in absurd (omega (arith, ints, s, i))
    by false q = tt

value_plain : (count : ℕ) (x : List ℕ) (o : Option Entry) → is_value_name o ≡ true → IsPlainItem (named count x o)
value_plain count x None e = absurd (true≢false (sym e))
value_plain count x (Some d) e = by d.meaning e
  where
    by : (m : Meaning) → is_value_meaning m ≡ true → IsPlainItem (meaning_term count x m)
    by (meaning.Element owner set index) e = tt
    by (meaning.Constant owner n) e = tt
    by m e = absurd (true≢false (sym e))

module _ (v : View) (ns : Names) where
  item_plain : (t : RawTermTree) → is_plain_item ns t ≡ true → Clean (fault_in v ns false t) → IsPlainItem (term_in v ns t)
  item_plain (Number n p) e h = tt
  item_plain (NameTerm x) e h = value_plain (length ns) x.text (found x.text ns) e
  item_plain (Atom atom.True p) e h = tt
  item_plain (Atom atom.False p) e h = tt
  item_plain (Atom atom.MaxInt p) e h = tt
  item_plain (Atom atom.MinInt p) e h = tt
  item_plain (Minus p (Number n q)) e h = literal_plain n q h.0
  item_plain t e h = absurd (true≢false (sym e))

  items_plain : (ts : RawTerms) (f : Form) → are_plain_items ns ts ≡ true → Clean (fault_from v ns f ts) → ArePlainItems (terms_in v ns ts)
  items_plain End f e h = tt
  items_plain (More t ts) f e h =
      let k = both_true (is_plain_item ns t) (are_plain_items ns ts) e in
      (item_plain t k.0 h.0.0, items_plain ts (with_item f (form_in v ns t)) k.1 h.1)

  -- an item is no set
  plain_of : (t : TermTree) → IsPlainItem t → IsPlain t
  plain_of (tree.Num n) h = h
  plain_of (tree.Truth b) h = h
  plain_of (tree.Elem set index) h = h
  plain_of (tree.Listed ts) h = absurd h
  plain_of t h = absurd h

  term_plain : (t : RawTermTree) → is_plain ns t ≡ true → Clean (fault_in v ns false t) → IsPlain (term_in v ns t)
  term_plain (Listed p ts) e h = items_plain ts form.Empty e h.0
  term_plain (Number n p) e h = plain_of (term_in v ns (Number n p)) (item_plain (Number n p) e h)
  term_plain (NameTerm x) e h = plain_of (term_in v ns (NameTerm x)) (item_plain (NameTerm x) e h)
  term_plain (Atom a p) e h = plain_of (term_in v ns (Atom a p)) (item_plain (Atom a p) e h)
  term_plain (Minus p t) e h = plain_of (term_in v ns (Minus p t)) (item_plain (Minus p t) e h)
  term_plain t e h = absurd (true≢false (sym e))

  terms_plain : (fs : List Known) (ts : List RawTermTree) → Clean (arguments_fault v ns fs ts) → Clean (plain_fault ns ts) → (u : TermTree) → Contains (arguments_in v ns ts) u → IsPlain u
  terms_plain fs [] h p u c = absurd (omega (arith, c.1))
  terms_plain [] (t ∷ ts) h p u c = at_term t ts (term_plain t (is_good _ 24 (place_of t) p.0) h.0) (terms_plain [] ts h.1 p.1 u) c.0 c.1 c.2
    where
      at_term : (t : RawTermTree) (ts : List RawTermTree) → IsPlain (term_in v ns t) → (Contains (arguments_in v ns ts) u → IsPlain u) → (k : ℕ) → k < length (arguments_in v ns (t ∷ ts)) → get_or (arguments_in v ns (t ∷ ts)) k u ≡ u → IsPlain u
      at_term t ts a r zero l e = subst IsPlain e a
      at_term t ts a r (suc k) l e = r (k, omega (arith, l), e)
  terms_plain (f ∷ fs) (t ∷ ts) h p u c = at_term t ts (term_plain t (is_good _ 24 (place_of t) p.0) h.0.0) (terms_plain fs ts h.1 p.1 u) c.0 c.1 c.2
    where
      at_term : (t : RawTermTree) (ts : List RawTermTree) → IsPlain (term_in v ns t) → (Contains (arguments_in v ns ts) u → IsPlain u) → (k : ℕ) → k < length (arguments_in v ns (t ∷ ts)) → get_or (arguments_in v ns (t ∷ ts)) k u ≡ u → IsPlain u
      at_term t ts a r zero l e = subst IsPlain e a
      at_term t ts a r (suc k) l e = r (k, omega (arith, l), e)

-- ---- names of definitions

abbrev name_entries : List RawDefinition → Seen
name_entries [] = []
name_entries (d ∷ ds) = (d.name.text, d.name.place) ∷ name_entries ds

names_new : (ds : List RawDefinition) (seen : Seen) → Clean (definition_names_fault seen ds) → AllNew seen (name_entries ds)
names_new [] seen h = tt
names_new (d ∷ ds) seen h = by (names_new ds (with_seen d.name seen) h.1) (found d.name.text seen) refl
  where
    by : AllNew (with_seen d.name seen) (name_entries ds) → (r : Option Place) → found d.name.text seen ≡ r → AllNew seen (name_entries (d ∷ ds))
    by n None q = (q, subst (λ s. AllNew s (name_entries ds)) (inside_new d.name.text d.name.place seen q) n)
    by n (Some p) q = let k : is_some (found d.name.text seen) ≡ true = ap is_some q in absurd (true≢false (sym k ∙ not_bad _ 1 d.name.place h.0))

module _ (f : RawDefinition → Definition) (named : (d : RawDefinition) → (f d).name ≡ written_name d.name) where
  definitions_times : (x : List ℕ) (ds : List RawDefinition) → times x (map (λ (d : Definition). d.name) (map f ds)) ≡ count x (texts (name_entries ds))
  definitions_times x [] = refl
  definitions_times x (d ∷ ds) = rw (named d) (omega (arith, hit_same x d.name.text, definitions_times x ds))

  definitions_written : (ds : List RawDefinition) → AreWritten (map (λ (d : Definition). d.name) (map f ds))
  definitions_written [] = tt
  definitions_written (d ∷ ds) = (ap (λ (n : Name). n.number) (named d), definitions_written ds)

  definitions_new : (ds : List RawDefinition) → Clean (definition_names_fault [] ds) → AreNew [] (map (λ (d : Definition). d.name) (map f ds))
  definitions_new ds h = are_new [] (map (λ (d : Definition). d.name) (map f ds)) (definitions_written ds)
      (λ x. let a = new_distinct [] (name_entries ds) (λ x. omega arith) (names_new ds [] h) x in let b = definitions_times x ds in omega (arith, a, b))

-- ---- parts

pub definition_parts : (before ns : Names) (ms : List RawMachine) (chs : List RawChannel) (own : List ℕ) (table : Definitions) (j : ℕ) (d : RawDefinition) → Clean (definition_fault before ns ms chs own table j d) →
    Clean (params_fault (outer_view ms) ns d.parameters) × Clean (declare_fault sort.Parameter [] (parameter_domains (outer_view ms) ns d) 0 ns (parameter_names d)) × (length d.parameters ≤ 8)
    × Clean (maybe_fault (view_with own ms) (inside_definition (outer_view ms) ns d) d.invariant)
    × Clean (process_fault before ns ms chs (outer_view ms) own table j (inside_definition (outer_view ms) ns d) false d.process)
unfolding definition_fault parameters_fault
definition_parts before ns ms chs own table j d h = (h.0.0, h.0.1.0, omega (arith, ltb-false 8 (length d.parameters) (not_bad _ 22 d.name.place h.0.1.1)), h.1.0, h.1.1)

pub controller_parts : (before ns : Names) (ms : List RawMachine) (chs : List RawChannel) (c : RawController) → Clean (controller_fault before ns ms chs c) →
    Clean (definition_names_fault [] c.definitions) × Clean (start_fault (outer_view ms) ns (table_of before ns ms chs c) c.start)
    × Clean (definitions_fault before ns ms chs (own_machines ns c) (table_of before ns ms chs c) 0 c.definitions) × Clean (silent_fault (costs_of c.definitions) c.definitions)
unfolding controller_fault
controller_parts before ns ms chs c h = (h.0.0, h.0.1, h.1.0, h.1.1)

definition_clean : (before ns : Names) (ms : List RawMachine) (chs : List RawChannel) (own : List ℕ) (table : Definitions) (ds : List RawDefinition) (n : ℕ) → FitsNumbers (n + length ds) → Clean (definitions_fault before ns ms chs own table n ds) →
    (j : ℕ) (d : RawDefinition) → slice_get ds j ≡ Some d → Clean (definition_fault before ns ms chs own table (n + j) d)
definition_clean before ns ms chs own table [] n f h j d e = let no : ⊥ = cc in absurd no
definition_clean before ns ms chs own table (r ∷ ds) n f h zero d e =
    let q : n ≡ n + 0 = omega arith in
    subst (λ n. Clean (definition_fault before ns ms chs own table n d)) q (subst (λ d. Clean (definition_fault before ns ms chs own table n d)) (same_Some r d e) h.0)
definition_clean before ns ms chs own table (r ∷ ds) n f h (suc j) d e =
    let s : next n ≡ n + 1 = next_is n (n + length (r ∷ ds)) (omega arith) f in
    let q : next n + j ≡ n + suc j = omega (arith, s) in
    subst (λ n. Clean (definition_fault before ns ms chs own table n d)) q (definition_clean before ns ms chs own table ds (next n) (omega (arith, f, s)) h.1 j d e)

silent_clean : (w : Costs) (ds : List RawDefinition) → Clean (silent_fault w ds) → (j : ℕ) (d : RawDefinition) → slice_get ds j ≡ Some d → (nat_lt 64 (cost w d.process) ≡ false) × Clean (after_fault w d.process)
silent_clean w [] h j d e = let no : ⊥ = cc in absurd no
silent_clean w (r ∷ ds) h zero d e = subst (λ (d : RawDefinition). (nat_lt 64 (cost w d.process) ≡ false) × Clean (after_fault w d.process)) (same_Some r d e) (not_bad _ 23 r.name.place h.0.0, h.0.1)
silent_clean w (r ∷ ds) h (suc j) d e = silent_clean w ds h.1 j d e

written_at : (ds : List RawDefinition) → AreWrittenDefinitions ds → (j : ℕ) (d : RawDefinition) → slice_get ds j ≡ Some d → IsWrittenDefinition d
written_at [] h j d e = let no : ⊥ = cc in absurd no
written_at (r ∷ ds) h zero d e = subst IsWrittenDefinition (same_Some r d e) h.0
written_at (r ∷ ds) h (suc j) d e = written_at ds h.1 j d e

nothing : {A : Type 0} (xs : List A) → xs ++ [] ≡ xs
nothing [] = refl
nothing (x ∷ xs) = ap (λ ys. x ∷ ys) (nothing xs)

-- ---- one controller

module _ (t : RawText) (so : IsSpelledText t) (well : WellFormedButEnds t) (y : System) (sys : IsSystemOf t y) (i place : ℕ) (at : position place (order_in (text_names t) t.order) ≡ i) (c : RawController) (wr : IsWrittenController c)
    (h : Clean (controller_fault (known_in t.machines) (text_names t) t.machines t.channels c))
    (rights : (j : ℕ) (d : RawDefinition) → slice_get c.definitions j ≡ Some d → Rights t so well y sys i place at c wr.few_definitions d.process)
    (own_below : AllBelow (length y.machines) (own_machines (text_names t) c)) where
  abbrev before : Names
  before = known_in t.machines

  abbrev G : Names
  G = text_names t

  abbrev v : View
  v = outer_view t.machines

  abbrev own : List ℕ
  own = own_machines G c

  abbrev table : Definitions
  table = table_of before G t.machines t.channels c

  abbrev C : Controller
  C = controller_in before G t.machines t.channels c

  abbrev sizes : List ℕ
  sizes = set_sizes y

  abbrev global : List Name
  global = global_names y

  parts : Clean (definition_names_fault [] c.definitions) × Clean (start_fault v G table c.start) × Clean (definitions_fault before G t.machines t.channels own table 0 c.definitions) × Clean (silent_fault (costs_of c.definitions) c.definitions)
  parts = controller_parts before G t.machines t.channels c h

  few : FitsNumbers (length c.definitions)
  few = wr.few_definitions

  clean_at : (j : ℕ) (d : RawDefinition) → slice_get c.definitions j ≡ Some d → Clean (definition_fault before G t.machines t.channels own table j d)
  clean_at j d e =
      let q : 0 + j ≡ j = omega arith in
      let l = few in
      subst (λ j. Clean (definition_fault before G t.machines t.channels own table j d)) q (definition_clean before G t.machines t.channels own table c.definitions 0 (omega (arith, l)) parts.2 j d e)

  all_clean : DefinitionsClean t c few parts.0
  all_clean j d e = (definition_parts before G t.machines t.channels own table j d (clean_at j d e)).4

  module _ (j : ℕ) (d : RawDefinition) (e : slice_get c.definitions j ≡ Some d) where
    abbrev ds : Domains
    ds = parameter_domains v G d

    abbrev xs : List RawName
    xs = parameter_names d

    abbrev inner : Names
    inner = inside_definition v G d

    pieces : Clean (params_fault v G d.parameters) × Clean (declare_fault sort.Parameter [] ds 0 G xs) × (length d.parameters ≤ 8) × Clean (maybe_fault (view_with own t.machines) inner d.invariant)
        × Clean (process_fault before G t.machines t.channels v own table j inner false d.process)
    pieces = definition_parts before G t.machines t.channels own table j d (clean_at j d e)

    fine : (x : RawName) → Has xs x → FineDomain sizes (found x.text ds)
    fine x m = fine_domain sizes ds (params_fine sizes v G (knows t so well y sys) d.parameters [] pieces.0 tt) x (member_sort sort.Parameter [] ds xs 0 G pieces.1 x m)

    bound : Reflects v inner sizes (scope_of (map (declared_name ds) xs) ++ []) (names (map (declared_name ds) xs) ++ global) [] × AreNew global (names (map (declared_name ds) xs))
    bound = domains_bound v sizes ds xs G [] global (outer_reflects t so well y sys) (λ x m. (fine x m).domain) pieces.1

    reflects : Reflects v inner sizes (scope_of (map (declared_name ds) xs)) (names (map (declared_name ds) xs) ++ global) []
    reflects = subst (λ s. Reflects v inner sizes s (names (map (declared_name ds) xs) ++ global) []) (nothing (scope_of (map (declared_name ds) xs))) bound.0

    inv_reflects : Reflects (view_with own t.machines) inner sizes (scope_of (map (declared_name ds) xs) ++ machines_scope t so well y sys own) (names (map (declared_name ds) xs) ++ global) []
    inv_reflects = (domains_bound (view_with own t.machines) sizes ds xs G (machines_scope t so well y sys own) global (owner_reflects t so well y sys own) (λ x m. (fine x m).domain) pieces.1).0

    over : Over t so well y sys i place at c few inner
    over = subst (Over t so well y sys i place at c few) (sym (declared_locals ds xs 0 G)) (over_locals t so well y sys i place at c few xs (forms_of ds xs) G (over_global t so well y sys i place at c few) (declared_bound ds xs 0 G pieces.1))

    few_params : length (map (declared_name ds) xs) ≤ 8
    few_params = let a = length-map xs (declared_name ds) in let b = length-map d.parameters param_name in let l = pieces.2 in omega (arith, a, b, l)

    body_typed : TypedProcess y global i C (scope_of (map (declared_name ds) xs)) (names (map (declared_name ds) xs) ++ global) (process_in before G t.machines t.channels v own table inner d.process)
    body_typed =
        process_typed t so well y sys i place at c few (results_are t so well y sys i place at c few) d.process inner (scope_of (map (declared_name ds) xs)) (names (map (declared_name ds) xs) ++ global) reflects over
        (written_at c.definitions wr.definitions j d e).process (rights j d e) j false pieces.4

    few_prefixes : prefixes (process_in before G t.machines t.channels v own table inner d.process) < 2 ^ 32
    few_prefixes =
        let q = prefixes_are before G t.machines t.channels v own table inner d.process in let l = (written_at c.definitions wr.definitions j d e).few_branches in omega (arith, q, l)

    silent : (nat_lt 64 (cost (costs_of c.definitions) d.process) ≡ false) × Clean (after_fault (costs_of c.definitions) d.process)
    silent = silent_clean (costs_of c.definitions) c.definitions parts.3 j d e

    typed_definition : TypedDefinition y i C j (definition_in before G t.machines t.channels own table d)
    unfolding definition_with controller_with
    typed_definition = record {
      new_names = bound.1;
      few_names = few_params;
      domains = have_domains sizes ds xs fine;
      invariant = maybe_typed (view_with own t.machines) sizes (scope_of (map (declared_name ds) xs) ++ machines_scope t so well y sys own) (names (map (declared_name ds) xs) ++ global) inner inv_reflects d.invariant
          (written_at c.definitions wr.definitions j d e).invariant pieces.3;
      body = body_typed;
      calls_later = calls_later t c few parts.0 d.process inner j pieces.4;
      operands = operands_fit t c few parts.0 d.process inner j false pieces.4;
      few_silent = few_ways t c few parts.0 all_clean d.process inner j false pieces.4 silent.0;
      few_silent_after = few_after t c few parts.0 all_clean d.process inner j false pieces.4 silent.1;
      few_branches = few_prefixes;
    }

  definition_named : (d : RawDefinition) → (definition_in before G t.machines t.channels own table d).name ≡ written_name d.name
  unfolding definition_with
  definition_named d = refl

  started : TypedProcess y global i C [] global (tree_call (definition_number (found c.start.name.text table)) (arguments_in v G c.start.arguments))
  started =
      definition_called t so well y sys i place at c few G [] global (outer_reflects t so well y sys) c.start.name c.start.arguments wr.start 0 true (found c.start.name.text table) refl
      (by (found c.start.name.text table) parts.1.0) parts.1.1.0
    where
      by : (o : Option (ℕ × List Known)) → Clean (start_count_fault c.start o) → Clean (call_fault before G t.machines t.channels v own table 0 true c.start.name (length c.start.arguments) o)
      by None h = absurd h
      by (Some d) h = (tt, h)

  definitions_typed : (j : ℕ) (D : Definition) → IsAt (map (definition_in before G t.machines t.channels own table) c.definitions) j D → TypedDefinition y i C j D
  definitions_typed j D e =
      let k = map_slot (definition_in before G t.machines t.channels own table) c.definitions j D e in
      subst (TypedDefinition y i C j) k.2 (typed_definition j k.0 k.1)

  pub typed_controller : TypedController y i C
  unfolding controller_with
  typed_controller = record {
    machines = own_below;
    definition_names = definitions_new (definition_in before G t.machines t.channels own table) definition_named c.definitions parts.0;
    few_definitions = let a = length-map c.definitions (definition_in before G t.machines t.channels own table) in let l = few in omega (arith, a, l);
    start = started;
    start_args = terms_plain v G (parameters_of (found c.start.name.text table)) c.start.arguments parts.1.1.0 parts.1.1.1;
    definitions = definitions_typed;
  }
