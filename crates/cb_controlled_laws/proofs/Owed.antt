-- What a controller of a typed system owes is kinded.
use Rattle.std.proofs.Common.{◌≡◌, ℕ, suc, ◌+◌, Bool, true, false, List, [], ◌∷◌, ◌++◌, flat_map, length, slice_get, Option, Some, None, refl, sym, ap, ap₂, ◌∙◌, subst, true≢false, if◌then◌else◌, arith}
use Rattle.std.specs.Prelude.{Contains}
use Rattle.std.proofs.lemmas.Bool.{and_from, and_parts}
use Rattle.std.proofs.lemmas.Option.{same_Some}
use Rattle.cb_term.specs.declared.name.Name.{Name}
use Rattle.cb_term.specs.declared.kind.Kind.{Kind}
use Rattle.cb_term.specs.Names.{same_name}
use Rattle.cb_term.specs.Tree as tree
use Rattle.cb_term.specs.Tree.{TermTree, FormulaTree}
use Rattle.cb_term.proofs.FreeLemmas.{or_left, or_right}
use Rattle.cb_term.proofs.ValueLemmas.{same_name_tells, same_name_self}
use Rattle.cb_seq.specs.declared.sequent.Group.{Group}
use Rattle.cb_seq.specs.declared.sequent.Group.TheVariants as group
use Rattle.cb_seq.specs.Kinds.{kind_in, fits}
use Rattle.cb_seq.specs.Validity.{Claim, AllKinded, AllFit, AreDifferent}
use Rattle.cb_seq.proofs.MoreNames.{fits_more}
use Rattle.cb_spec.specs.declared.event.Event.TheVariants as event
use Rattle.cb_spec.specs.declared.system.Channel.{Channel}
use Rattle.cb_spec.specs.declared.system.Controller.{Controller}
use Rattle.cb_spec.specs.declared.system.Declared.{Declared}
use Rattle.cb_spec.specs.declared.system.Definition.{Definition}
use Rattle.cb_spec.specs.declared.system.Machine.{Machine}
use Rattle.cb_spec.specs.declared.system.System.{System}
use Rattle.cb_spec.specs.ProcessTree.{ProcessTree, Stop, Skip, Call, Prefix, Choice, Internal, If}
use Rattle.cb_spec.specs.SubstTree as subst_tree
use Rattle.cb_spec.specs.SubstTree.{SubstTree, SubstTrees}
use Rattle.cb_spec.specs.Domains.{kind_of_domain}
use Rattle.cb_spec.specs.Bound.{names, is_among}
use Rattle.cb_spec.specs.Forms.{Form}
use Rattle.cb_spec.specs.Journals.{set_sizes, IsNumbered}
use Rattle.cb_spec.specs.States.{IsAt}
use Rattle.cb_spec.specs.TypedTerms.{Scope, form_in}
use Rattle.cb_spec.specs.TypedSubsts as typed
use Rattle.cb_spec.specs.TypedSubsts.{TypedSubst, TypedSides}
use Rattle.cb_spec.specs.TypedProcesses.{AreNew, scope_of, scope_at, scope_with, result_forms, TypedNote, TypedProcess}
use Rattle.cb_spec.specs.Typed.{global_names, targets_of, GivesDomains, HaveDomains, own_scope, NumbersDiffer, TypedController, Typed}
use Rattle.cb_obligations.specs.Branches.{branches}
use Rattle.cb_obligations.specs.Laws.{NamesUpTo}
use Rattle.cb_obligations.specs.Owed.{Owed, named, with_kinds}
use Rattle.cb_obligations.specs.Pieces.{pieces}
use Rattle.cb_obligations.specs.Sufficing.{Differ}
use Rattle.cb_obligations.specs.Written.{IsWritten}
use Rattle.cb_safety_laws.proofs.Lists.{contains_at}
use Rattle.cb_typed.specs.Erasure.{kind_of_form, kinds_in}
use Rattle.cb_typed.specs.Laws.{AllOwedKinded}
use Rattle.cb_typed.proofs.Erasing.{some_and, formula_fits}
use Rattle.cb_typed.proofs.Naming.{new_written, new_differ}
use Rattle.cb_typed.proofs.Mapping.{below_self}
use Rattle.cb_typed.proofs.Kinding.{Names, Wider, branches_fit, all_fit}
use Rattle.cb_typed.proofs.Owing.{pieces_kinded}
use Rattle.cb_typed.proofs.Fitting.{kind_of_declared, scope_kinds, typed_machine}
use Rattle.cb_conditions.specs.Reading.{replaced, terms_at}
use Rattle.cb_conditions.specs.Conditions.{for_found, typings, declared_as, vars, guarantee, assumption, asked, wc, if_there, listed, machines_of, variables_of, invariants_of, beginnings, start_formula, known, loop_formula, match_formulas, own_names, start_owes, loop_owes, match_owes, definitions_owe, controller_owes}
use Rattle.cb_conditions.proofs.Values.{names_as}
use Rattle.cb_controlled_laws.proofs.Owning.{machines_differ}
use Rattle.cb_controlled_laws.proofs.Speaking.{with_scope, new_other, more_taken, global_taken}
use Rattle.cb_controlled_laws.proofs.Arguing.{scope_as}
use Rattle.cb_controlled_laws.proofs.Replacing.{AllBelow, args_below, replaced_fits, reads_args, AreDomains, typings_fit, AllWritten, for_all_fits}
use Rattle.cb_controlled_laws.proofs.Called.{target_is, kinds_append, all_written, pre_fits, after_fits}
use Rattle.cb_controlled_laws.proofs.OwnNames.{in_front, behind_them, wider_behind, kinds_differ, own_differ, machine_wider, own_kinds, own_written}

-- ---- more targets

module _ (sizes : List ℕ) (ts us : Names) (more : (x : Name) (k : Kind) → typed.kind_of_target ts x ≡ Some k → typed.kind_of_target us x ≡ Some k) where
  mutual
    more_targets : (s : SubstTree) (scope : Scope) (taken : List Name) → TypedSubst sizes ts scope taken s → TypedSubst sizes us scope taken s
    more_targets subst_tree.Skip scope taken w = tt
    more_targets (subst_tree.Assign x e) scope taken w =
        let p = some_and (typed.kind_of_target ts x) _ w in
        rw (more x p.0 p.1) p.2
    more_targets (subst_tree.Together a b) scope taken w = (more_targets a scope taken w.0, more_targets b scope taken w.1)
    more_targets (subst_tree.Choice ss) scope taken w = more_sides ss scope taken w
    more_targets (subst_tree.If p a b) scope taken w = (w.0, more_targets a scope taken w.1, more_targets b scope taken w.2)
    more_targets (subst_tree.AnyOf z d p s) scope taken w = (w.0, w.1, w.2, w.3, more_targets s _ (z ∷ taken) w.4)

    more_sides : (ss : SubstTrees) (scope : Scope) (taken : List Name) → TypedSides sizes ts scope taken ss → TypedSides sizes us scope taken ss
    more_sides subst_tree.End scope taken w = tt
    more_sides (subst_tree.More s ss) scope taken w = (more_targets s scope taken w.0, more_sides ss scope taken w.1)

-- ---- values that pass

module _ (sizes : List ℕ) where
  given_domains : (ds : List Declared) (f : FormulaTree) → GivesDomains sizes ds f → AreDomains sizes ds
  given_domains [] f g = tt
  given_domains (d ∷ ds) f g = (g.0, given_domains ds f g.2)

  had_domains : (ds : List Declared) → HaveDomains sizes ds → AreDomains sizes ds
  had_domains [] h = tt
  had_domains (d ∷ ds) h = (h.0, had_domains ds h.2)

  as_domains : (xs : List Name) (ds : List Declared) → AreDomains sizes ds → AreDomains sizes (declared_as xs ds)
  as_domains [] ds a = tt
  as_domains (x ∷ xs) [] a = tt
  as_domains (x ∷ xs) (d ∷ ds) a = (a.0, as_domains xs ds a.1)

  vars_below : (xs : List Name) (ds : List Declared) (ms : Names) → length xs ≡ length ds → Differ xs → Wider (with_kinds (declared_as xs ds)) ms → AllBelow sizes ms ds (vars xs)
  vars_below [] [] ms len n w = tt
  vars_below [] (d ∷ ds) ms len n w = absurd (omega (arith, len))
  vars_below (x ∷ xs) [] ms len n w = absurd (omega (arith, len))
  vars_below (x ∷ xs) (d ∷ ds) ms len n w = (
    (
      kind_of_domain d.domain,
      w x (kind_of_domain d.domain) (ap (λ b. if b then Some (kind_of_domain d.domain) else kind_in (with_kinds (declared_as xs ds)) x) (same_name_self x)),
      below_self (kind_of_domain d.domain),
    ),
    vars_below xs ds ms (omega (arith, len)) n.1
        (λ z k e. w z k (ap (λ b. if b then Some (kind_of_domain d.domain) else kind_in (with_kinds (declared_as xs ds)) z) (apart z (kind_of_declared sizes (declared_as xs ds) z k e)) ∙ e)),
  )
    where
      apart : (z : Name) → is_among z (names (declared_as xs ds)) ≡ true → same_name z x ≡ false
      apart z e = by (same_name z x) refl
        where
          by : (b : Bool) → same_name z x ≡ b → b ≡ false
          by true s =
              let there : is_among z xs ≡ true = ap (is_among z) (sym (names_as sizes xs ds (omega (arith, len)))) ∙ e in
              absurd (true≢false (sym there ∙ ap (λ u. is_among u xs) (same_name_tells z x s) ∙ n.0))
          by false s = refl

  -- what fits for declared names fits where these and others stand
  scope_fits : (ds : List Declared) (rest : Names) (f : FormulaTree) → fits sizes (kinds_in (scope_of ds)) [] f ≡ true → fits sizes (with_kinds ds ++ rest) [] f ≡ true
  scope_fits ds rest f e = fits_more sizes (with_kinds ds) (with_kinds ds ++ rest) (in_front (with_kinds ds) rest) f [] [] (λ j k h. h)
      (subst (λ ns. fits sizes ns [] f ≡ true) (scope_kinds sizes ds) e)

  found_fits : {A : Type 0} (ns : Names) (o : Option A) (f : A → FormulaTree) (a : A) → o ≡ Some a → fits sizes ns [] (f a) ≡ true → fits sizes ns [] (for_found o f) ≡ true
  found_fits ns o f a e h = subst (λ z. fits sizes ns [] (for_found z f) ≡ true) (sym e) h

  with_up : (xs : List Name) (gs : List Form) (ns : Names) → ((x : Name) → is_among x xs ≡ true → IsWritten x) → NamesUpTo 0 ns → NamesUpTo 0 (kinds_in (scope_with xs gs) ++ ns)
  with_up [] gs ns h u = u
  with_up (x ∷ xs) [] ns h u = u
  with_up (x ∷ xs) (g ∷ gs) ns h u =
      let zero : x.number ≡ 0 = h x (or_left (same_name x x) (is_among x xs) (same_name_self x)) in
      (omega (arith, zero), with_up xs gs ns (λ z e. h z (or_right (same_name z x) (is_among z xs) e)) u)

  -- ---- the list

  claims_append : (ps qs : List Claim) → AllKinded sizes ps → AllKinded sizes qs → AllKinded sizes (ps ++ qs)
  claims_append [] qs a b = b
  claims_append (p ∷ ps) qs a b = (a.0, claims_append ps qs a.1 b)

  named_kinded : (g : Group) (owner : Name) (part : Option Name) (i : ℕ) (qs : List Claim) → AllKinded sizes qs → AllOwedKinded sizes (named g owner part i qs)
  named_kinded g owner part i [] v = tt
  named_kinded g owner part i (q ∷ qs) v = (v.0, named_kinded g owner part (i + 1) qs v.1)

  owed_append : (as' bs : List Owed) → AllOwedKinded sizes as' → AllOwedKinded sizes bs → AllOwedKinded sizes (as' ++ bs)
  owed_append [] bs a b = b
  owed_append (o ∷ as') bs a b = (a.0, owed_append as' bs a.1 b)

  fit_append : (ns : Names) (fs gs : List FormulaTree) → AllFit sizes ns fs → AllFit sizes ns gs → AllFit sizes ns (fs ++ gs)
  fit_append ns [] gs a b = b
  fit_append ns (f ∷ fs) gs a b = (a.0, fit_append ns fs gs a.1 b)

  pieces_fine : (ns : Names) (f : FormulaTree) → AreDifferent ns → NamesUpTo 0 ns → fits sizes ns [] f ≡ true → AllKinded sizes (pieces ns [] 0 f)
  pieces_fine ns f d u e = pieces_kinded sizes f [] 0 ns [] d u (λ j q h. cc) tt e

  each_pieces : (fs : List FormulaTree) → AllFit sizes [] fs → AllKinded sizes (flat_map (λ (f : FormulaTree). pieces [] [] 0 f) fs)
  each_pieces [] a = tt
  each_pieces (f ∷ fs) a = claims_append (pieces [] [] 0 f) (flat_map (λ (f : FormulaTree). pieces [] [] 0 f) fs) (pieces_fine [] f tt tt a.0) (each_pieces fs a.1)

module _ (y : System) (t : Typed y) (i : ℕ) (c : Controller) (num : IsNumbered y i c) where
  abbrev n : List ℕ
  n = set_sizes y

  abbrev own : Names
  own = own_names y c

  abbrev Globals : List Name → Type 0
  Globals taken = (x : Name) → is_among x (global_names y) ≡ true → is_among x taken ≡ true

  numbers_differ : NumbersDiffer c.machines
  numbers_differ = machines_differ y.controllers num.0 c num.1.1 t.one_owner

  typed_controller : TypedController y i c
  typed_controller = t.controllers i c num

  own_up : NamesUpTo 0 own
  own_up = fitted (variables_of (machines_of y c)) (own_written y t c.machines)
    where
      fitted : (ds : List Declared) → ((x : Name) → is_among x (names ds) ≡ true → IsWritten x) → NamesUpTo 0 (with_kinds ds)
      fitted [] h = tt
      fitted (d ∷ ds) h =
          let zero : d.name.number ≡ 0 = h d.name (or_left (same_name d.name d.name) (is_among d.name (names ds)) (same_name_self d.name)) in
          (omega (arith, zero), fitted ds (λ x e. h x (or_right (same_name x d.name) (is_among x (names ds)) e)))

  own_different : AreDifferent own
  own_different = kinds_differ (variables_of (machines_of y c)) (own_differ y t c.machines numbers_differ)

  its_wider : (k : ℕ) (m : Machine) → Contains c.machines k → IsAt y.machines k m → Wider (with_kinds m.variables) own
  its_wider k m has e = let p = contains_at c.machines k has in machine_wider y t c.machines numbers_differ p.0 k m p.1 e

  -- new names hide no variable
  not_hidden : (taken xs : List Name) → Globals taken → AreNew taken xs → (x : Name) (k : Kind) → kind_in own x ≡ Some k → is_among x xs ≡ false
  not_hidden taken xs g w x k e = by (is_among x xs) refl
    where
      by : (b : Bool) → is_among x xs ≡ b → b ≡ false
      by true h = absurd (true≢false (sym (kind_of_declared n (variables_of (machines_of y c)) x k e) ∙ new_other y t c taken xs g w x h))
      by false h = refl

  params_wider : (taken : List Name) (ds : List Declared) (ns : Names) → Globals taken → AreNew taken (names ds) → Wider own ns → Wider own (with_kinds ds ++ ns)
  params_wider taken ds ns g w wide x k e = behind_them ds ns x (not_hidden taken (names ds) g w x k e) ∙ wide x k e

  invariant_fits : (k : ℕ) (m : Machine) (ns : Names) → IsAt y.machines k m → Wider (with_kinds m.variables) ns → fits n ns [] m.invariant ≡ true
  invariant_fits k m ns e wide = fits_more n (with_kinds m.variables) ns wide m.invariant [] [] (λ j c h. h)
      (subst (λ ms. fits n ms [] m.invariant ≡ true) (scope_kinds n m.variables) (formula_fits n (scope_of m.variables) (global_names y) m.invariant [] (typed_machine y t k m e).invariant))

  asked_fits : (j : ℕ) (d : Definition) → IsAt c.definitions j d → fits n (with_kinds d.params ++ own) [] (asked d) ≡ true
  asked_fits j d e =
      let td = typed_controller.definitions j d e in
      let same : kinds_in (scope_of d.params ++ own_scope y c) ≡ with_kinds d.params ++ own = kinds_append (scope_of d.params) (own_scope y c) ∙ ap₂ (λ a b. a ++ b) (scope_kinds n d.params) (own_kinds y t c.machines) in
      and_from _ _
      (typings_fit n (with_kinds d.params ++ own) d.params (had_domains n d.params td.domains) (new_differ (global_names y) (names d.params) td.new_names) (in_front (with_kinds d.params) own))
      (subst (λ ms. fits n ms [] d.invariant ≡ true) same (formula_fits n (scope_of d.params ++ own_scope y c) (names d.params ++ global_names y) d.invariant [] td.invariant))

  assertion_fits : (k : ℕ) (ch : Channel) (rest : Names) → IsAt y.channels k ch → fits n (with_kinds ch.values ++ rest) [] ch.assertion ≡ true
  assertion_fits k ch rest e = scope_fits n ch.values rest ch.assertion (formula_fits n (scope_of ch.values) (names ch.values ++ global_names y) ch.assertion [] (t.channels k ch e).assertion)

  guarantee_fits : (k : ℕ) (ch : Channel) (note : Option FormulaTree) (rest : Names) → IsAt y.channels k ch → TypedNote n (scope_of ch.values) (names ch.values ++ global_names y) note →
      fits n (with_kinds ch.values ++ rest) [] (guarantee ch note) ≡ true
  guarantee_fits k ch None rest e w = assertion_fits k ch rest e
  guarantee_fits k ch (Some f) rest e w = scope_fits n ch.values rest f (formula_fits n (scope_of ch.values) (names ch.values ++ global_names y) f [] w)

  -- ---- names that get what passes

  module _ (k : ℕ) (ch : Channel) (at : IsAt y.channels k ch) (xs : List Name) (taken : List Name) (g : Globals taken) (new : AreNew taken xs) (len : length xs ≡ length ch.values) where
    abbrev es : List Declared
    es = declared_as xs ch.values

    es_names : names es ≡ xs
    es_names = names_as n xs ch.values len

    es_new : AreNew taken (names es)
    es_new = subst (AreNew taken) (sym es_names) new

    es_differ : Differ (names es)
    es_differ = new_differ taken (names es) es_new

    es_written : AllWritten es
    es_written = all_written es (new_written taken (names es) es_new)

    note_fits : (f : FormulaTree) (ms : Names) → Wider (with_kinds es) ms → TypedNote n (scope_at xs ch.values) (xs ++ global_names y) (Some f) → fits n ms [] f ≡ true
    note_fits f ms wide w = fits_more n (with_kinds es) ms wide f [] [] (λ j c h. h)
        (subst (λ ns. fits n ns [] f ≡ true) (scope_kinds n es) (subst (λ s. fits n (kinds_in s) [] f ≡ true) (scope_as xs ch.values) (formula_fits n (scope_at xs ch.values) (xs ++ global_names y) f [] w)))

    got_fits : (ms rest : Names) → Wider (with_kinds es) ms → Wider rest ms → fits n ms [] (replaced (terms_at (names ch.values) (vars xs)) ch.assertion) ≡ true
    got_fits ms rest wide more = replaced_fits n (with_kinds ch.values ++ rest) ms (terms_at (names ch.values) (vars xs))
        (reads_args n ch.values (vars xs) ms rest (vars_below n xs ch.values ms len (new_differ taken xs new) wide) more) ch.assertion (assertion_fits k ch rest at)

    assumption_fits : (note : Option FormulaTree) (ms : Names) → Wider (with_kinds es) ms → Wider own ms → TypedNote n (scope_at xs ch.values) (xs ++ global_names y) note → fits n ms [] (assumption ch xs note) ≡ true
    assumption_fits None ms wide more w = got_fits ms own wide more
    assumption_fits (Some f) ms wide more w = and_from _ _
        (typings_fit n ms es (as_domains n xs ch.values (given_domains n ch.values ch.assertion (t.channels k ch at).domains)) es_differ wide) (note_fits f ms wide w)

  -- ---- processes

  process_fits : (p : ProcessTree) (scope : Scope) (taken : List Name) → TypedProcess y (global_names y) i c scope taken p → Globals taken →
      (ns : Names) → Wider (kinds_in scope) ns → Wider own ns → NamesUpTo 0 ns → fits n ns [] (wc y c p) ≡ true
  process_fits Stop scope taken w g ns wide more up = refl
  process_fits Skip scope taken w g ns wide more up = refl
  process_fits (Call k ts) scope taken w g ns wide more up =
      let q = some_and (slice_get c.definitions k) _ w in
      let d = q.0 in
      found_fits n ns (slice_get c.definitions k) (λ d. replaced (terms_at (names d.params) ts) (asked d)) d q.1
      (replaced_fits n (with_kinds d.params ++ own) ns (terms_at (names d.params) ts) (reads_args n d.params ts ns own (args_below n scope taken ns wide d.params ts q.2) more) (asked d) (asked_fits k d q.1))
  process_fits (Prefix (event.Output k ts note) p) scope taken w g ns wide more up =
      let q = some_and (slice_get y.channels k) _ w.0 in
      let ch = q.0 in
      and_from _ _
      (found_fits n ns (slice_get y.channels k) (λ ch. replaced (terms_at (names ch.values) ts) (guarantee ch note)) ch q.1
      (replaced_fits n (with_kinds ch.values ++ own) ns (terms_at (names ch.values) ts) (reads_args n ch.values ts ns own (args_below n scope taken ns wide ch.values ts q.2.1) more)
      (guarantee ch note) (guarantee_fits k ch note own q.1 q.2.2)))
      (process_fits p scope taken w.1 g ns wide more up)
  process_fits (Prefix (event.Input k xs note) p) scope taken w g ns wide more up =
      let q = some_and (slice_get y.channels k) _ w.1 in
      let ch = q.0 in
      let ds = declared_as xs ch.values in
      let same : kinds_in (scope_at xs ch.values ++ scope) ≡ with_kinds ds ++ kinds_in scope =
      ap (λ s. kinds_in (s ++ scope)) (scope_as xs ch.values) ∙ kinds_append (scope_of ds) scope ∙ ap (λ a. a ++ kinds_in scope) (scope_kinds n ds) in
      found_fits n ns (slice_get y.channels k) _ ch q.1
      (for_all_fits n ns ds (tree.Implies (assumption ch xs note) (wc y c p)) (es_differ k ch q.1 xs taken g w.0 q.2.1) (es_written k ch q.1 xs taken g w.0 q.2.1) up
      (λ ms wide' up'.
      let more' : Wider own ms = λ x j e. wide' x j (params_wider taken ds ns g (es_new k ch q.1 xs taken g w.0 q.2.1) more x j e) in
      and_from _ _
      (assumption_fits k ch q.1 xs taken g w.0 q.2.1 note ms (λ x j e. wide' x j (in_front (with_kinds ds) ns x j e)) more' q.2.2)
      (process_fits p (scope_at xs ch.values ++ scope) (xs ++ taken) q.2.3 (more_taken y t c xs taken g) ms
      (λ x j e. wide' x j (wider_behind (with_kinds ds) (kinds_in scope) ns wide x j (subst (λ ms. kind_in ms x ≡ Some j) same e))) more' up')))
  process_fits (Prefix (event.Call k j ts xs) p) scope taken w g ns wide more up =
      let qm = some_and (slice_get y.machines k) _ w.2 in
      let m = qm.0 in
      let qo = some_and (slice_get m.operations j) _ qm.2 in
      let o = qo.0 in
      let of = (typed_machine y t k m qm.1).operations j o qo.1 in
      let s = scope_with xs (result_forms n m o) in
      let below = args_below n scope taken ns wide o.params ts qo.2.0 in
      let its = its_wider k m w.0 qm.1 in
      let its' : Wider (with_kinds m.variables) ns = λ x a e. more x a (its x a e) in
      let more' : Wider own (kinds_in s ++ ns) = λ x a e. behind_scope s ns x (λ f h. true≢false (sym (with_scope xs (result_forms n m o) x f h) ∙ not_hidden taken xs g w.1 x a e)) ∙ more x a e in
      found_fits n ns (slice_get y.machines k) _ m qm.1
      (found_fits n ns (slice_get m.operations j) _ o qo.1
      (and_from _ _ (pre_fits y t k m qm.1 o of ts ns below its')
      (after_fits y t k m qm.1 o of ts ns below its' xs (tree.Implies m.invariant (wc y c p)) up qo.2.1
      (and_from _ _ (invariant_fits k m (kinds_in s ++ ns) qm.1 (λ x a e. more' x a (its x a e)))
      (process_fits p (s ++ scope) (xs ++ taken) qo.2.2 (more_taken y t c xs taken g) (kinds_in s ++ ns)
      (λ x a e. wider_behind (kinds_in s) (kinds_in scope) ns wide x a (subst (λ ms. kind_in ms x ≡ Some a) (kinds_append s scope) e)) more'
      (with_up n xs (result_forms n m o) ns (new_written taken xs w.1) up))))))
    where
      behind_scope : (s : Scope) (ns : Names) (x : Name) → ((f : Form) → form_in s x ≡ Some f → ⊥) → kind_in (kinds_in s ++ ns) x ≡ kind_in ns x
      behind_scope [] ns x h = refl
      behind_scope (p ∷ s) ns x h = by (same_name x p.0) h (behind_scope s ns x)
        where
          by : (b : Bool) → ((f : Form) → (if b then Some p.1 else form_in s x) ≡ Some f → ⊥) → (((f : Form) → form_in s x ≡ Some f → ⊥) → kind_in (kinds_in s ++ ns) x ≡ kind_in ns x) →
              (if b then Some (kind_of_form p.1) else kind_in (kinds_in s ++ ns) x) ≡ kind_in ns x
          by true h r = absurd (h p.1 refl)
          by false h r = r h
  process_fits (Choice p q) scope taken w g ns wide more up = and_from _ _ (process_fits p scope taken w.0 g ns wide more up) (process_fits q scope taken w.1 g ns wide more up)
  process_fits (Internal p q) scope taken w g ns wide more up = and_from _ _ (process_fits p scope taken w.0 g ns wide more up) (process_fits q scope taken w.1 g ns wide more up)
  process_fits (If f p q) scope taken w g ns wide more up =
      let e = fits_more n (kinds_in scope) ns wide f [] [] (λ j k h. h) (formula_fits n scope taken f [] w.0) in
      and_from _ _ (and_from _ _ e (process_fits p scope taken w.1 g ns wide more up)) (and_from _ _ e (process_fits q scope taken w.2 g ns wide more up))

  -- ---- the groups

  each_machine : (ks : List ℕ) → ((j k : ℕ) (m : Machine) → IsAt ks j k → IsAt y.machines k m → Wider (with_kinds m.variables) own) →
      (fits n own [] (invariants_of (listed y.machines ks)) ≡ true) × TypedSubst n own [] (global_names y) (beginnings (listed y.machines ks))
  each_machine [] h = (refl, tt)
  each_machine (k ∷ ks) h = by (slice_get y.machines k) refl (each_machine ks (λ j. h (suc j)))
    where
      by : (o : Option Machine) → slice_get y.machines k ≡ o → (fits n own [] (invariants_of (listed y.machines ks)) ≡ true) × TypedSubst n own [] (global_names y) (beginnings (listed y.machines ks)) →
          (fits n own [] (invariants_of (if_there o (listed y.machines ks))) ≡ true) × TypedSubst n own [] (global_names y) (beginnings (if_there o (listed y.machines ks)))
      by None e r = r
      by (Some m) e r =
          let wide = h 0 k m refl e in (
            and_from _ _ (invariant_fits k m own e wide) r.0,
            (
              more_targets n (targets_of m.variables) own (λ x a q. target_is own x ∙ wide x a (sym (target_is (with_kinds m.variables) x) ∙ q)) m.init [] (global_names y) (typed_machine y t k m e).init,
              r.1,
            ),
          )

  whole : (fits n own [] (invariants_of (machines_of y c)) ≡ true) × TypedSubst n own [] (global_names y) (beginnings (machines_of y c))
  whole = each_machine c.machines (λ j k m a e. machine_wider y t c.machines numbers_differ j k m a e)

  start_fits : fits n own [] (start_formula y c) ≡ true
  start_fits = all_fit n own (branches (beginnings (machines_of y c))) (tree.Implies (invariants_of (machines_of y c)) (wc y c (Call c.start c.start_args)))
      (branches_fit n own own (λ x a b h e. same_Some a b (sym h ∙ target_is own x ∙ e)) (beginnings (machines_of y c)) 0 [] [] (global_names y) own whole.1 (λ x k h. cc) own_up)
      (and_from _ _ whole.0 (process_fits (Call c.start c.start_args) [] (global_names y) typed_controller.start (λ x e. e) own (λ x k h. cc) (λ x k h. h) own_up))

  module _ (j : ℕ) (d : Definition) (at : IsAt c.definitions j d) where
    loop_fits : fits n own [] (loop_formula y c d) ≡ true
    loop_fits =
        let td = typed_controller.definitions j d at in
        let ds = d.params in
        for_all_fits n own ds (tree.Implies (known y c d) (wc y c d.body)) (new_differ (global_names y) (names ds) td.new_names) (all_written ds (new_written (global_names y) (names ds) td.new_names)) own_up
        (λ ms wide up.
        let more : Wider own ms = λ x k e. wide x k (params_wider (global_names y) ds own (λ x e. e) td.new_names (λ x k e. e) x k e) in
        let a = fits_more n (with_kinds ds ++ own) ms wide (asked d) [] [] (λ j k h. h) (asked_fits j d at) in
        let p = and_parts (fits n ms [] (typings ds)) (fits n ms [] d.invariant) a in
        and_from _ _ (and_from _ _ p.0 (and_from _ _ (fits_more n own ms more (invariants_of (machines_of y c)) [] [] (λ j k h. h) whole.0) p.1))
        (process_fits d.body (scope_of ds) (names ds ++ global_names y) td.body (global_taken y t c (names ds)) ms
        (λ x k e. wide x k (in_front (with_kinds ds) own x k (subst (λ ns. kind_in ns x ≡ Some k) (scope_kinds n ds) e))) more up))

  matches_fit : (p : ProcessTree) (scope : Scope) (taken : List Name) → TypedProcess y (global_names y) i c scope taken p → Globals taken → AllFit n [] (match_formulas y p)
  matches_fit Stop scope taken w g = tt
  matches_fit Skip scope taken w g = tt
  matches_fit (Call k ts) scope taken w g = tt
  matches_fit (Prefix (event.Output k ts None) p) scope taken w g = matches_fit p scope taken w.1 g
  matches_fit (Prefix (event.Output k ts (Some f)) p) scope taken w g =
      let q = some_and (slice_get y.channels k) _ w.0 in
      let ch = q.0 in
      let new = (t.channels k ch q.1).new_names in (
        found_fits n [] (slice_get y.channels k) _ ch q.1
            (for_all_fits n [] ch.values (tree.Implies f ch.assertion) (new_differ (global_names y) (names ch.values) new) (all_written ch.values (new_written (global_names y) (names ch.values) new)) tt
            (λ ms wide up. fits_more n (with_kinds ch.values ++ []) ms wide (tree.Implies f ch.assertion) [] [] (λ j k h. h) (and_from _ _ (guarantee_fits k ch (Some f) [] q.1 q.2.2) (assertion_fits k ch [] q.1)))),
        matches_fit p scope taken w.1 g,
      )
  matches_fit (Prefix (event.Input k xs None) p) scope taken w g =
      let q = some_and (slice_get y.channels k) _ w.1 in
      matches_fit p (scope_at xs q.0.values ++ scope) (xs ++ taken) q.2.3 (more_taken y t c xs taken g)
  matches_fit (Prefix (event.Input k xs (Some f)) p) scope taken w g =
      let q = some_and (slice_get y.channels k) _ w.1 in
      let ch = q.0 in
      let ds = declared_as xs ch.values in (
        found_fits n [] (slice_get y.channels k) _ ch q.1
            (for_all_fits n [] ds (tree.Implies (replaced (terms_at (names ch.values) (vars xs)) ch.assertion) f) (es_differ k ch q.1 xs taken g w.0 q.2.1) (es_written k ch q.1 xs taken g w.0 q.2.1) tt
            (λ ms wide up.
            let wide' : Wider (with_kinds ds) ms = λ x a e. wide x a (in_front (with_kinds ds) [] x a e) in
            and_from _ _ (got_fits k ch q.1 xs taken g w.0 q.2.1 ms [] wide' (λ x a e. cc)) (note_fits k ch q.1 xs taken g w.0 q.2.1 f ms wide' q.2.2))),
        matches_fit p (scope_at xs ch.values ++ scope) (xs ++ taken) q.2.3 (more_taken y t c xs taken g),
      )
  matches_fit (Prefix (event.Call k j ts xs) p) scope taken w g =
      let qm = some_and (slice_get y.machines k) _ w.2 in
      let qo = some_and (slice_get qm.0.operations j) _ qm.2 in
      matches_fit p (scope_with xs (result_forms n qm.0 qo.0) ++ scope) (xs ++ taken) qo.2.2 (more_taken y t c xs taken g)
  matches_fit (Choice p q) scope taken w g = fit_append n [] (match_formulas y p) (match_formulas y q) (matches_fit p scope taken w.0 g) (matches_fit q scope taken w.1 g)
  matches_fit (Internal p q) scope taken w g = fit_append n [] (match_formulas y p) (match_formulas y q) (matches_fit p scope taken w.0 g) (matches_fit q scope taken w.1 g)
  matches_fit (If f p q) scope taken w g = fit_append n [] (match_formulas y p) (match_formulas y q) (matches_fit p scope taken w.1 g) (matches_fit q scope taken w.2 g)

  one_fine : (j : ℕ) (d : Definition) → IsAt c.definitions j d → AllOwedKinded n (loop_owes y c d ++ match_owes y c d)
  one_fine j d at =
      let td = typed_controller.definitions j d at in
      owed_append n (loop_owes y c d) (match_owes y c d)
      (named_kinded n group.Loop c.name (Some d.name) 1 (pieces own [] 0 (loop_formula y c d)) (pieces_fine n own (loop_formula y c d) own_different own_up (loop_fits j d at)))
      (named_kinded n group.Match c.name (Some d.name) 1 (flat_map (λ (f : FormulaTree). pieces [] [] 0 f) (match_formulas y d.body))
      (each_pieces n (match_formulas y d.body) (matches_fit d.body (scope_of d.params) (names d.params ++ global_names y) td.body (global_taken y t c (names d.params)))))

  definitions_fine : (ds : List Definition) → ((j : ℕ) (d : Definition) → IsAt ds j d → AllOwedKinded n (loop_owes y c d ++ match_owes y c d)) → AllOwedKinded n (definitions_owe y c ds)
  definitions_fine [] h = tt
  definitions_fine (d ∷ ds) h = owed_append n (loop_owes y c d ++ match_owes y c d) (definitions_owe y c ds) (h 0 d refl) (definitions_fine ds (λ j. h (suc j)))

  pub all_fine : AllOwedKinded n (controller_owes y c)
  all_fine = owed_append n (start_owes y c) (definitions_owe y c c.definitions)
      (named_kinded n group.Start c.name None 1 (pieces own [] 0 (start_formula y c)) (pieces_fine n own (start_formula y c) own_different own_up start_fits)) (definitions_fine c.definitions one_fine)
