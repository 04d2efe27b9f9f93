-- Valid groups of obligations say what a sound controller needs.
use Rattle.std.proofs.Common.{◌≡◌, ℕ, zero, suc, Bool, true, false, ◌||◌, List, [], ◌∷◌, ◌++◌, ◌⊎◌, inl, inr, flat_map, Option, Some, None, IsSome, slice_get, refl, sym, ap, ◌∙◌, subst, arith}
use Rattle.std.specs.Prelude.{Contains}
use Rattle.cb_term.specs.declared.name.Name.{Name}
use Rattle.cb_term.specs.declared.value.Value.{Value}
use Rattle.cb_term.specs.Tree.{FormulaTree, Implies}
use Rattle.cb_term.specs.Names.{same_name}
use Rattle.cb_term.proofs.ValueLemmas.{same_name_self}
use Rattle.cb_conditions.specs.Reading.{replaced, terms_at}
use Rattle.cb_term.specs.Values.{Look, IsOf}
use Rattle.cb_term.specs.Holds.{Holds}
use Rattle.cb_term.specs.Closed.{IsClosed}
use Rattle.cb_seq.specs.declared.sequent.Group.TheVariants as group
use Rattle.cb_seq.specs.Validity.{AllValid}
use Rattle.cb_spec.specs.declared.event.Event.TheVariants as event
use Rattle.cb_spec.specs.declared.system.Controller.{Controller}
use Rattle.cb_spec.specs.declared.system.Declared.{Declared}
use Rattle.cb_spec.specs.declared.system.Definition.{Definition}
use Rattle.cb_spec.specs.declared.system.Machine.{Machine}
use Rattle.cb_spec.specs.declared.system.System.{System}
use Rattle.cb_spec.specs.ProcessTree.{ProcessTree, Stop, Skip, Call, Prefix, Choice, Internal, If}
use Rattle.cb_spec.specs.Domains.{kind_of_domain}
use Rattle.cb_spec.specs.Stores.{Writes, found, over, empty}
use Rattle.cb_spec.specs.Bound.{names, is_among, bind, bound_look, AreIn, GivesKinds}
use Rattle.cb_spec.specs.Runs.{Runs, Fits}
use Rattle.cb_spec.specs.Journals.{set_sizes}
use Rattle.cb_spec.specs.States.{IsAt}
use Rattle.cb_spec.specs.Sound.{Matched, OwnHold, StartsOn, Sat}
use Rattle.cb_spec.proofs.RunLemmas.{runs_agree, runs_targets, sides_apart}
use Rattle.cb_spec.proofs.StoreLemmas.{over_is, or_look}
use Rattle.cb_obligations.specs.Written.{EachName, IsWritten, IsPlain, AsWritten}
use Rattle.cb_obligations.specs.Laws.{UpTo, NamesUpTo}
use Rattle.cb_obligations.specs.Pieces.{pieces}
use Rattle.cb_obligations.specs.Owed.{with_kinds, AllOwedValid}
use Rattle.cb_obligations.specs.Sufficing.{Differ, IsVariable}
use Rattle.cb_obligations.proofs.NameLemmas.{agree_holds, each_name_weaken}
use Rattle.cb_obligations.proofs.Cutting.{pieces_suffice, valid_append}
use Rattle.cb_obligations.proofs.FreeNames.{transformed_names}
use Rattle.cb_obligations.proofs.Transforms.{transform_right}
use Rattle.cb_obligations.proofs.Calls.{over_agrees, gives_kinds, kept_is, named_valid, owed_append, for_all_names}
use Rattle.cb_conditions.specs.Conditions.{for_found, if_there, listed, machines_of, variables_of, invariants_of, beginnings, declared_as, vars, wc, known, start_formula, loop_formula, sent_match, got_match, match_formulas, own_names, start_owes, loop_owes, match_owes, definitions_owe}
use Rattle.cb_conditions.specs.Fitting.{AreWritten, PlainProcess}
use Rattle.cb_conditions.specs.Sufficing.{Among, is_own, Speaks, ControllerFits, ControllerKinded, merged, ConditionsSuffice}
use Rattle.cb_conditions.proofs.Closing.{EachMachine, all_listed, invariants_closed, typings_closed, wc_closed, vars_closed}
use Rattle.cb_conditions.proofs.Walking.{beginnings_written}
use Rattle.cb_conditions.proofs.Naming.{typings_written, invariants_written, got_written, wc_written}
use Rattle.cb_conditions.proofs.Readings.{closed_replaced}
use Rattle.cb_conditions.proofs.Values.{over_append, bind_among, for_all_at, typings_hold, names_as, kinds_as, in_kinds}
use Rattle.cb_conditions.proofs.Sufficing.{own_variable, merged_own, merged_bind, others, over_inputs, suffices}

-- ---- the controller's machines

all_owned : (P : Machine → Type 0) (ms : List Machine) (ks : List ℕ) → ((k : ℕ) (m : Machine) → Contains ks k → IsAt ms k m → P m) → EachMachine P (listed ms ks)
all_owned P ms [] h = tt
all_owned P ms (k ∷ ks) h = by (slice_get ms k) refl (all_owned P ms ks (λ i m has e. h i m (suc has.0, omega (arith, has.1), has.2) e))
  where
    by : (o : Option Machine) → slice_get ms k ≡ o → EachMachine P (listed ms ks) → EachMachine P (if_there o (listed ms ks))
    by None e r = r
    by (Some m) e r = (h k m (0, omega arith, refl) e, r)

each_machine : (P Q : Machine → Type 0) (ms : List Machine) → EachMachine P ms → ((m : Machine) → P m → Q m) → EachMachine Q ms
each_machine P Q [] p h = tt
each_machine P Q (m ∷ ms) p h = (h m p.0, each_machine P Q ms p.1 h)

written_append : (ds es : List Declared) → AreWritten (names ds) → AreWritten (names es) → AreWritten (names (ds ++ es))
written_append [] es a b = b
written_append (d ∷ ds) es a b = (a.0, written_append ds es a.1 b)

variables_written : (ms : List Machine) → EachMachine (λ m. AreWritten (names m.variables)) ms → AreWritten (names (variables_of ms))
variables_written [] h = tt
variables_written (m ∷ ms) h = written_append m.variables (variables_of ms) h.0 (variables_written ms h.1)

written_up : (ds : List Declared) → AreWritten (names ds) → NamesUpTo 0 (with_kinds ds)
written_up [] w = tt
written_up (d ∷ ds) w = (omega (arith, w.0), written_up ds w.1)

module _ (sizes : List ℕ) where
  kinds_append : (ds es : List Declared) (l : Look) → GivesKinds sizes ds l → GivesKinds sizes es l → GivesKinds sizes (ds ++ es) l
  kinds_append [] es l a b = b
  kinds_append (d ∷ ds) es l a b = (a.0, kinds_append ds es l a.1 b)

  variables_kinds : (ms : List Machine) (l : Look) → EachMachine (λ m. GivesKinds sizes m.variables l) ms → GivesKinds sizes (variables_of ms) l
  variables_kinds [] l h = tt
  variables_kinds (m ∷ ms) l h = kinds_append m.variables (variables_of ms) l h.0 (variables_kinds ms l h.1)

  pub kinds_agree : (ds : List Declared) (l l' : Look) → ((x : Name) → is_among x (names ds) ≡ true → l x ≡ l' x) → GivesKinds sizes ds l → GivesKinds sizes ds l'
  kinds_agree [] l l' a h = tt
  kinds_agree (d ∷ ds) l l' a h = (
    subst (IsOf sizes (kind_of_domain d.domain)) (a d.name (ap (λ b. b || is_among d.name (names ds)) (same_name_self d.name))) h.0,
    kinds_agree ds l l' (λ x e. a x (also x e)) h.1,
  )
    where
      also : (x : Name) → is_among x (names ds) ≡ true → (same_name x d.name || is_among x (names ds)) ≡ true
      also x e = by (same_name x d.name)
        where
          by : (b : Bool) → (b || is_among x (names ds)) ≡ true
          by true = refl
          by false = e

  invariants_hold : (ms : List Machine) (l : Look) → EachMachine (λ m. Holds sizes l m.invariant []) ms → Holds sizes l (invariants_of ms) []
  invariants_hold [] l h = tt
  invariants_hold (m ∷ ms) l h = (h.0, invariants_hold ms l h.1)

  -- ---- all initialisations at once

  module _ (own : Name → Bool) (store : Look) where
    abbrev u0 : Look
    u0 = merged own empty store

    pub record Begins (m : Machine) : Type 0 where
      pub writes : Writes
      pub runs : Runs sizes m.init u0 writes
      -- what it writes is in the store
      pub there : (x : Name) → IsSome (found writes x) → (own x ≡ true) × (over writes empty x ≡ store x)

    begun_over : (d : Writes) → ((x : Name) → IsSome (found d x) → (own x ≡ true) × (over d empty x ≡ store x)) → (l : Look) → ((x : Name) → l x ≡ u0 x) → (x : Name) → over d l x ≡ u0 x
    begun_over d h l same x = over_is d l x ∙ by (found d x) (h x) (over_is d empty x)
      where
        by : (o : Option Value) → (IsSome o → (own x ≡ true) × (over d empty x ≡ store x)) → over d empty x ≡ or_look o (empty x) → or_look o (l x) ≡ u0 x
        by None g e = same x
        by (Some v) g e = let w = g refl in sym e ∙ (w.1 ∙ sym (merged_own own empty store x w.0))

    all_begin : (ms : List Machine) → EachMachine Begins ms → Fits sizes (beginnings ms) → (d : Writes) × (Runs sizes (beginnings ms) u0 d × ((x : Name) → over d u0 x ≡ u0 x))
    all_begin [] bs f = ([], (refl, (λ x. refl)))
    all_begin (m ∷ ms) bs f =
        let b = bs.0 in
        let r = all_begin ms bs.1 f.2 in (
          b.writes ++ r.0,
          (
            (b.writes, (r.0, (b.runs, r.1.0, sides_apart sizes m.init (beginnings ms) u0 b.writes r.0 f b.runs r.1.0, refl))),
            (λ x. over_append b.writes r.0 u0 x ∙ begun_over b.writes b.there (over r.0 u0) r.1.1 x),
          ),
        )

-- ---- lists of obligations

each_defined : (y : System) (c : Controller) (sizes : List ℕ) (ds : List Definition) (j : ℕ) (d : Definition) → IsAt ds j d → AllOwedValid sizes (definitions_owe y c ds) →
    AllOwedValid sizes (loop_owes y c d ++ match_owes y c d)
each_defined y c sizes [] j d at v = cc
each_defined y c sizes (e ∷ ds) zero d at v =
    let same : e ≡ d = cc (at) in
    subst (λ z. AllOwedValid sizes (loop_owes y c z ++ match_owes y c z)) same (owed_append sizes (loop_owes y c e ++ match_owes y c e) (definitions_owe y c ds) v).0
each_defined y c sizes (e ∷ ds) (suc j) d at v = each_defined y c sizes ds j d at (owed_append sizes (loop_owes y c e ++ match_owes y c e) (definitions_owe y c ds) v).1

module _ (sizes : List ℕ) where
  abbrev EachShown : List FormulaTree → Type 0
  EachShown [] = Unit {0}
  EachShown (f ∷ fs) = AllValid sizes (pieces [] [] 0 f) × EachShown fs

  each_shown : (fs : List FormulaTree) → AllValid sizes (flat_map (λ (f : FormulaTree). pieces [] [] 0 f) fs) → EachShown fs
  each_shown [] v = tt
  each_shown (f ∷ fs) v = let w = (valid_append sizes (pieces [] [] 0 f) (flat_map (λ (g : FormulaTree). pieces [] [] 0 g) fs)).0 v in (w.0, each_shown fs w.1)

  shown_both : (fs gs : List FormulaTree) → EachShown (fs ++ gs) → EachShown fs × EachShown gs
  shown_both [] gs h = (tt, h)
  shown_both (f ∷ fs) gs h = let r = shown_both fs gs h.1 in ((h.0, r.0), r.1)

-- ---- the three groups

module _ (y : System) (c : Controller) (fits : ControllerFits y c) where
  abbrev n : List ℕ
  n = set_sizes y

  abbrev own : Name → Bool
  own = is_own y c

  abbrev ms : List Machine
  ms = machines_of y c

  invariants_plain : EachMachine (λ m. IsPlain m.invariant) ms
  invariants_plain = all_listed (λ m. IsPlain m.invariant) y.machines c.machines (λ k m e. (fits.plain.machines k m e).invariant)

  -- a formula whose pieces are valid holds where variables have values of their kinds
  shown : (f : FormulaTree) → EachName IsWritten f → AllValid n (pieces (own_names y c) [] 0 f) → (l : Look) → GivesKinds n (variables_of ms) l → Holds n l f []
  shown f w v l k = pieces_suffice n (own_names y c) [] 0 f
      (written_up (variables_of ms) (variables_written ms (all_listed (λ m. AreWritten (names m.variables)) y.machines c.machines (λ k m e. (fits.plain.machines k m e).variables)))) tt
      (each_name_weaken IsWritten (UpTo 0) (λ x e. omega (arith, e)) f w) v l (gives_kinds n (variables_of ms) l k) tt

  module _ (store : Look) (hold : OwnHold y c store) where
    abbrev base : Look
    base = merged own empty store

    base_kinds : GivesKinds n (variables_of ms) base
    base_kinds = kinds_agree n (variables_of ms) store base (λ x e. sym (merged_own own empty store x e))
        (variables_kinds n ms store (all_owned (λ m. GivesKinds n m.variables store) y.machines c.machines hold.kinds))

    -- the invariants hold in each look-up that has the machines' variables from the store
    own_invariants : (l : Look) → ((x : Name) → own x ≡ true → l x ≡ store x) → Holds n l (invariants_of ms) []
    own_invariants l same = invariants_hold n ms l (all_owned (λ m. Holds n l m.invariant []) y.machines c.machines
        (λ k m has e. (agree_holds n store l (IsVariable m) (λ x v. sym (same x (own_variable y c k m has e x v))) ⊥ m.invariant [] (fits.fits k m has e).invariant_names).0 (hold.invariants k m has e)))

    -- ---- START

    module _ (starts : (k : ℕ) (m : Machine) → Contains c.machines k → IsAt y.machines k m → StartsOn y m store) where
      begins : (k : ℕ) (m : Machine) → Contains c.machines k → IsAt y.machines k m → Begins n own store m
      begins k m has e =
          let s = starts k m has e in
          let mf = fits.fits k m has e in record {
            writes = s.0;
            runs = runs_agree n m.init empty base (λ x r. absurd (mf.init_reads x r)) s.0 s.1.0;
            there = λ x i.
                let v = (fits.machines k m has e).init x (runs_targets n m.init empty s.0 s.1.0 x i) in
                (own_variable y c k m has e x v, sym (s.1.1 x v ∙ kept_is (names m.variables) s.0 empty x v));
          }

      start_goes : AllValid n (pieces (own_names y c) [] 0 (start_formula y c)) → ControllerKinded y c → Sat y c (Call c.start c.start_args) empty store
      start_goes v kinded =
          let p = Call c.start c.start_args in
          let r = Implies (invariants_of ms) (wc y c p) in
          let s = beginnings ms in
          let sw = beginnings_written ms (all_listed (λ m. AsWritten m.init) y.machines c.machines (λ k m e. (fits.plain.machines k m e).init)) in
          let rw' : EachName IsWritten r = (invariants_written ms invariants_plain, wc_written y c fits.plain p fits.plain.start_args) in
          let rc : IsClosed 0 r = (invariants_closed ms invariants_plain, wc_closed y c fits.plain p fits.plain.start_args) in
          let all = shown (start_formula y c) (transformed_names s r sw rw') v base base_kinds in
          let d = all_begin n own store ms (all_owned (Begins n own store) y.machines c.machines begins) fits.beginnings_fit in
          let after = (transform_right n s r sw fits.beginnings_fit rc base []).0 all d.0 d.1.0 in
          let here : Holds n base r [] = subst (λ l. Holds n l r []) (λ i x. d.1.1 x i) after in
          suffices y c fits p fits.plain.start_args fits.start_args empty store (kinded.start store) (here (own_invariants base (λ x e. merged_own own empty store x e)))

    -- ---- LOOP

    loop_goes : (j : ℕ) (d : Definition) → IsAt c.definitions j d → AllValid n (pieces (own_names y c) [] 0 (loop_formula y c d)) → ControllerKinded y c → (vs : List Value) → AreIn n d.params vs →
        Holds n (over (bind (names d.params) vs) store) d.invariant [] → Sat y c d.body (bound_look (names d.params) vs) store
    loop_goes j d at v kinded vs i inv =
        let fd = fits.definitions j d at in
        let pd = fits.plain.definitions j d at in
        let ps = names d.params in
        let l = over (bind ps vs) base in
        let kw : EachName IsWritten (known y c d) = (typings_written d.params pd.params, (invariants_written ms invariants_plain, pd.invariant.0)) in
        let kc : IsClosed 0 (known y c d) = (typings_closed d.params, (invariants_closed ms invariants_plain, pd.invariant.1)) in
        let f = Implies (known y c d) (wc y c d.body) in
        let fw : EachName IsWritten f = (kw, wc_written y c fits.plain d.body pd.body) in
        let fc : IsClosed 0 f = (kc, wc_closed y c fits.plain d.body pd.body) in
        let all = shown (loop_formula y c d) (for_all_names n d.params [] f fw) v base base_kinds in
        let body = for_all_at n base f fc d.params fd.differ all vs (in_kinds n d.params vs i) in
        let os = others y c fits ps fd.params in
        let own_same : (x : Name) → own x ≡ true → l x ≡ store x = λ x e. merged_bind own ps os vs empty store x ∙ merged_own own (bound_look ps vs) store x e in
        let inv' = (agree_holds n (over (bind ps vs) store) l (λ x. Among ps x ⊎ (own x ≡ true))
        (λ x m. elim m [ inl a ↦ bind_among ps vs store base x a | inr o ↦ over_agrees (bind ps vs) store base x (sym (merged_own own empty store x o)) ]) ⊥ d.invariant [] fd.invariant).0 inv in
        let go = body (typings_hold n d.params vs l base i fd.differ (λ x m. refl), (own_invariants l own_same, inv')) in
        suffices y c fits d.body pd.body fd.body (bound_look ps vs) store (kinded.loop j d at store vs i hold.kinds)
        (subst (λ l'. Holds n l' (wc y c d.body) []) (λ i' x. merged_bind own ps os vs empty store x i') go)

  -- ---- MATCH

  shown_alone : (f : FormulaTree) → EachName IsWritten f → AllValid n (pieces [] [] 0 f) → Holds n empty f []
  shown_alone f w v = pieces_suffice n [] [] 0 f tt tt (each_name_weaken IsWritten (UpTo 0) (λ x e. omega (arith, e)) f w) v empty (λ x k e. cc) tt

  found_shown : {A : Type 0} (o : Option A) (f : A → FormulaTree) (a : A) → o ≡ Some a → AllValid n (pieces [] [] 0 (for_found o f)) → AllValid n (pieces [] [] 0 (f a))
  found_shown o f a e v = subst (λ p. AllValid n (pieces [] [] 0 (for_found p f))) e v

  matches : (p : ProcessTree) → PlainProcess p → Speaks y c p → EachShown n (match_formulas y p) → Matched y p
  matches Stop pp sp h = tt
  matches Skip pp sp h = tt
  matches (Call k ts) pp sp h = tt
  matches (Prefix (event.Output k ts None) p) pp sp h = matches p pp.2 sp.2 h
  matches (Prefix (event.Output k ts (Some f)) p) pp sp h = (
    (λ ch e vs kinds hf.
        let pc = fits.plain.channels k ch e in
        let v = found_shown (slice_get y.channels k) (λ ch'. sent_match ch' f) ch e h.0 in
        let g = Implies f ch.assertion in
        let all = shown_alone (sent_match ch f) (for_all_names n ch.values [] g (pp.1.0, pc.1.0)) v in
        for_all_at n empty g (pp.1.1, pc.1.1) ch.values (fits.channels k ch e).differ all vs kinds hf),
    matches p pp.2 sp.2 h.1,
  )
  matches (Prefix (event.Input k xs None) p) pp sp h = matches p pp.2 sp.4 h
  matches (Prefix (event.Input k xs (Some f)) p) pp sp h = (
    (λ ch e vs kinds ha.
        let pc = fits.plain.channels k ch e in
        let v = found_shown (slice_get y.channels k) (λ ch'. got_match ch' xs f) ch e h.0 in
        let ds = declared_as xs ch.values in
        let len = sp.2 ch e in
        let same = names_as n xs ch.values len in
        let a = replaced (terms_at (names ch.values) (vars xs)) ch.assertion in
        let g = Implies a f in
        let gc : IsClosed 0 g = (closed_replaced (terms_at (names ch.values) (vars xs)) (vars_closed (names ch.values) xs) ch.assertion pc.1.1, pp.1.1) in
        let all = shown_alone (got_match ch xs f) (for_all_names n ds [] g (got_written ch xs pc.1 pp.0, pp.1.0)) v in
        let one = for_all_at n empty g gc ds (subst Differ (sym same) sp.1) all vs (kinds_as n xs ch.values vs len kinds) in
        let one' : Holds n (bound_look xs vs) g [] = subst (λ zs. Holds n (over (bind zs vs) empty) g []) same one in
        one' ((over_inputs y c fits empty ch xs vs len sp.1 kinds (fits.channels k ch e).assertion).1 ha)),
    matches p pp.2 sp.4 h.1,
  )
  matches (Prefix (event.Call k j ts xs) p) pp sp h = matches p pp.2 sp.3 h
  matches (Choice p q) pp sp h = let w = shown_both n (match_formulas y p) (match_formulas y q) h in (matches p pp.0 sp.0 w.0, matches q pp.1 sp.1 w.1)
  matches (Internal p q) pp sp h = let w = shown_both n (match_formulas y p) (match_formulas y q) h in (matches p pp.0 sp.0 w.0, matches q pp.1 sp.1 w.1)
  matches (If f p q) pp sp h = let w = shown_both n (match_formulas y p) (match_formulas y q) h in (matches p pp.1 sp.1 w.0, matches q pp.2 sp.2 w.1)

pub conditions_suffice : ConditionsSuffice
conditions_suffice y c fits kinded v =
    let n' = set_sizes y in
    let w = owed_append n' (start_owes y c) (definitions_owe y c c.definitions) v in
    let of = λ (j : ℕ) (d : Definition) (at : IsAt c.definitions j d).
    owed_append n' (loop_owes y c d) (match_owes y c d) (each_defined y c n' c.definitions j d at w.1) in
    record {
      start = λ store starts hold. start_goes y c fits store hold starts (named_valid n' group.Start c.name None 1 (pieces (own_names y c) [] 0 (start_formula y c)) w.0) kinded;
      loop = λ j d at store vs i hold inv. loop_goes y c fits store hold j d at
          (named_valid n' group.Loop c.name (Some d.name) 1 (pieces (own_names y c) [] 0 (loop_formula y c d)) (of j d at).0) kinded vs i inv;
      match = λ j d at.
          let fs = match_formulas y d.body in
          matches y c fits d.body (fits.plain.definitions j d at).body (fits.definitions j d at).body
          (each_shown n' fs (named_valid n' group.Match c.name (Some d.name) 1 (flat_map (λ (f : FormulaTree). pieces [] [] 0 f) fs) (of j d at).1));
    }
