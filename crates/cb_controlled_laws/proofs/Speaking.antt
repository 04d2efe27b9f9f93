-- The controllers of a typed system fit.
use Rattle.std.proofs.Common.{◌≡◌, ℕ, Bool, true, false, ◌||◌, List, [], ◌∷◌, ◌++◌, length, ◌⊎◌, inl, inr, Option, Some, None, slice_get, refl, sym, ◌∙◌, subst, if◌then◌else◌, true≢false}
use Rattle.cb_term.specs.declared.name.Name.{Name}
use Rattle.cb_term.specs.declared.kind.Kind.{Kind}
use Rattle.cb_term.specs.Names.{same_name}
use Rattle.cb_term.specs.Tree.{TermTree, FormulaTree}
use Rattle.cb_term.proofs.FreeLemmas.{or_left, or_right}
use Rattle.cb_term.proofs.ValueLemmas.{same_name_self}
use Rattle.cb_seq.proofs.KindLemmas.{kind_not_free}
use Rattle.cb_spec.specs.declared.event.Event.TheVariants as event
use Rattle.cb_spec.specs.declared.system.Channel.{Channel}
use Rattle.cb_spec.specs.declared.system.Controller.{Controller}
use Rattle.cb_spec.specs.declared.system.Declared.{Declared}
use Rattle.cb_spec.specs.declared.system.Definition.{Definition}
use Rattle.cb_spec.specs.declared.system.Machine.{Machine}
use Rattle.cb_spec.specs.declared.system.Operation.{Operation}
use Rattle.cb_spec.specs.declared.system.System.{System}
use Rattle.cb_spec.specs.ProcessTree.{ProcessTree, Stop, Skip, Call, Prefix, Choice, Internal, If}
use Rattle.cb_spec.specs.Bound.{names, result_names, is_among}
use Rattle.cb_spec.specs.Forms.{Form, form_of_domain}
use Rattle.cb_spec.specs.Journals.{set_sizes, IsNumbered}
use Rattle.cb_spec.specs.States.{IsAt}
use Rattle.cb_spec.specs.TypedTerms.{Scope, form_in, TypedAs}
use Rattle.cb_spec.specs.TypedProcesses.{AreNew, scope_of, kinds_of, scope_at, scope_in, scope_with, result_forms, TypedArgs, TypedNote, TypedProcess}
use Rattle.cb_spec.specs.Typed.{global_names, targets_of, own_scope, TypedController, Typed}
use Rattle.cb_obligations.specs.Written.{EachNameOfTerm, IsWritten}
use Rattle.cb_obligations.specs.Sufficing.{IsVariable}
use Rattle.cb_typed.proofs.Erasing.{some_and}
use Rattle.cb_typed.proofs.Naming.{each_of_term, Scoped, known, form_none, formula_names, formula_plain, as_kind, term_plain, reads_known, new_written, new_apart, new_differ}
use Rattle.cb_typed.specs.Erasure.{kind_of_form, kinds_in}
use Rattle.cb_typed.proofs.Fitting.{declared_in, form_both, typed_machine, variable_global, variable_written, new_params, fits_of_typed}
use Rattle.cb_conditions.specs.Conditions.{if_there, listed, variables_of}
use Rattle.cb_conditions.specs.Fitting.{AreWritten, ArePlain, PlainNote, PlainProcess, PlainMachine, PlainDefinition, PlainController}
use Rattle.cb_conditions.specs.Sufficing.{Among, is_own, IsOther, EachIsOther, OfOthers, NoteOf, Speaks, IsInside, MachineSpeaks, DefinitionSpeaks, ControllerFits}
use Rattle.cb_controlled_laws.specs.Laws.{TypedControllersFit}
use Rattle.cb_controlled_laws.proofs.Owning.{machines_differ, init_own, begun_fit, own_scope_own}

-- ---- names

each_written : (xs : List Name) → ((x : Name) → is_among x xs ≡ true → IsWritten x) → AreWritten xs
each_written [] h = tt
each_written (x ∷ xs) h = (
  h x (or_left (same_name x x) (is_among x xs) (same_name_self x)),
  each_written xs (λ z e. h z (or_right (same_name z x) (is_among z xs) e)),
)

pub at_scope : (xs : List Name) (ds : List Declared) (x : Name) (f : Form) → form_in (scope_at xs ds) x ≡ Some f → is_among x xs ≡ true
at_scope [] ds x f e = cc
at_scope (z ∷ xs) [] x f e = cc
at_scope (z ∷ xs) (d ∷ ds) x f e = by (same_name x z) e (at_scope xs ds x f)
  where
    by : (b : Bool) → (if b then Some (form_of_domain d.domain) else form_in (scope_at xs ds) x) ≡ Some f → (form_in (scope_at xs ds) x ≡ Some f → is_among x xs ≡ true) → (b || is_among x xs) ≡ true
    by true e r = refl
    by false e r = r e

pub with_scope : (xs : List Name) (gs : List Form) (x : Name) (f : Form) → form_in (scope_with xs gs) x ≡ Some f → is_among x xs ≡ true
with_scope [] gs x f e = cc
with_scope (z ∷ xs) [] x f e = cc
with_scope (z ∷ xs) (g ∷ gs) x f e = by (same_name x z) e (with_scope xs gs x f)
  where
    by : (b : Bool) → (if b then Some g else form_in (scope_with xs gs) x) ≡ Some f → (form_in (scope_with xs gs) x ≡ Some f → is_among x xs ≡ true) → (b || is_among x xs) ≡ true
    by true e r = refl
    by false e r = r e

-- ---- a typed term speaks of its scope

module _ (sizes : List ℕ) (scope : Scope) (taken : List Name) where
  term_names : (These : Name → Type 0) → Scoped These scope → (k : Kind) (t : TermTree) → TypedAs sizes scope taken k t → EachNameOfTerm These t
  term_names These s k t w =
      let p = as_kind sizes scope taken k t w in
      each_of_term These t (λ y e. known These scope s y (λ n. kind_not_free sizes (kinds_in scope) y (form_none scope y n) t [] (kind_of_form p.0) p.1 e))

  pub args_plain : Scoped IsWritten scope → (ks : List Kind) (ts : List TermTree) → TypedArgs sizes scope taken ks ts → ArePlain ts
  args_plain s [] [] w = tt
  args_plain s [] (t ∷ ts) w = absurd w
  args_plain s (k ∷ ks) [] w = absurd w
  args_plain s (k ∷ ks) (t ∷ ts) w = (term_plain sizes scope taken s k t w.0, args_plain s ks ts w.1)

  pub args_other : (y : System) (c : Controller) → Scoped (IsOther y c) scope → (ks : List Kind) (ts : List TermTree) → TypedArgs sizes scope taken ks ts → OfOthers y c ts
  args_other y c s [] [] w = tt
  args_other y c s [] (t ∷ ts) w = absurd w
  args_other y c s (k ∷ ks) [] w = absurd w
  args_other y c s (k ∷ ks) (t ∷ ts) w = (term_names (IsOther y c) s k t w.0, args_other y c s ks ts w.1)

  note_plain : Scoped IsWritten scope → (note : Option FormulaTree) → TypedNote sizes scope taken note → PlainNote note
  note_plain s None w = tt
  note_plain s (Some f) w = formula_plain sizes scope taken s f w

  note_names : (xs : List Name) → Scoped (Among xs) scope → (note : Option FormulaTree) → TypedNote sizes scope taken note → NoteOf xs note
  note_names xs s None w = tt
  note_names xs s (Some f) w = formula_names sizes scope taken (Among xs) s f w

-- ---- variables are global

own_machine : (ms : List Machine) (ks : List ℕ) (x : Name) → is_among x (names (variables_of (listed ms ks))) ≡ true → (k : ℕ) × (m : Machine) × (IsAt ms k m) × IsVariable m x
own_machine ms [] x e = cc
own_machine ms (k ∷ ks) x e = by (slice_get ms k) refl e (own_machine ms ks x)
  where
    either : (ds es : List Declared) (C : Type 0) → is_among x (names (ds ++ es)) ≡ true → (is_among x (names ds) ≡ true → C) → (is_among x (names es) ≡ true → C) → C
    either [] es C h p q = q h
    either (d ∷ ds) es C h p q = step (same_name x d.name) h p (λ h' p'. either ds es C h' p' q)
      where
        step : (b : Bool) → (b || is_among x (names (ds ++ es))) ≡ true → ((b || is_among x (names ds)) ≡ true → C) →
            (is_among x (names (ds ++ es)) ≡ true → (is_among x (names ds) ≡ true → C) → C) → C
        step true h p r = p refl
        step false h p r = r h p

    by : (o : Option Machine) → slice_get ms k ≡ o → is_among x (names (variables_of (if_there o (listed ms ks)))) ≡ true →
        (is_among x (names (variables_of (listed ms ks))) ≡ true → (i : ℕ) × (m : Machine) × (IsAt ms i m) × IsVariable m x) → (i : ℕ) × (m : Machine) × (IsAt ms i m) × IsVariable m x
    by None n e r = r e
    by (Some m) n e r = either m.variables (variables_of (listed ms ks)) _ e (λ h. (k, m, n, h)) r

module _ (y : System) (t : Typed y) (c : Controller) where
  own_global : (x : Name) → is_own y c x ≡ true → is_among x (global_names y) ≡ true
  own_global x e = let q = own_machine y.machines c.machines x e in variable_global y t q.0 q.1 q.2 x q.3

  -- what is new is no variable
  pub new_other : (taken xs : List Name) → ((x : Name) → is_among x (global_names y) ≡ true → is_among x taken ≡ true) → AreNew taken xs → (x : Name) → is_among x xs ≡ true → IsOther y c x
  new_other taken xs g n x e = by (is_own y c x) refl
    where
      by : (b : Bool) → is_own y c x ≡ b → b ≡ false
      by true o = absurd (true≢false (sym e ∙ new_apart taken xs n x (g x (own_global x o))))
      by false o = refl

  pub each_other : (xs : List Name) → ((x : Name) → is_among x xs ≡ true → IsOther y c x) → EachIsOther y c xs
  each_other [] h = tt
  each_other (x ∷ xs) h = (
    h x (or_left (same_name x x) (is_among x xs) (same_name_self x)),
    each_other xs (λ z e. h z (or_right (same_name z x) (is_among z xs) e)),
  )

  pub more_taken : (xs taken : List Name) → ((x : Name) → is_among x (global_names y) ≡ true → is_among x taken ≡ true) → (x : Name) → is_among x (global_names y) ≡ true → is_among x (xs ++ taken) ≡ true
  more_taken [] taken g x e = g x e
  more_taken (z ∷ xs) taken g x e = or_right (same_name x z) (is_among x (xs ++ taken)) (more_taken xs taken g x e)

  pub global_taken : (xs : List Name) (x : Name) → is_among x (global_names y) ≡ true → is_among x (xs ++ global_names y) ≡ true
  global_taken xs = more_taken xs (global_names y) (λ x e. e)

  abbrev n : List ℕ
  n = set_sizes y

  abbrev Mine : Name → Type 0
  Mine x = IsWritten x × IsOther y c x

  channel_written : (k : ℕ) (ch : Channel) → IsAt y.channels k ch → Scoped IsWritten (scope_of ch.values)
  channel_written k ch e x f s = new_written (global_names y) (names ch.values) (t.channels k ch e).new_names x (declared_in n ch.values x f s)

  both_scopes : (s u : Scope) → Scoped Mine s → Scoped Mine u → Scoped Mine (s ++ u)
  both_scopes s u a b x f e = form_both n s u x f (Mine x) e (λ h. a x f h) (λ h. b x f h)

  pub new_scope : (taken xs : List Name) (s : Scope) → ((x : Name) → is_among x (global_names y) ≡ true → is_among x taken ≡ true) → AreNew taken xs →
      ((x : Name) (f : Form) → form_in s x ≡ Some f → is_among x xs ≡ true) → Scoped Mine s
  new_scope taken xs s g w h x f e = (new_written taken xs w x (h x f e), new_other taken xs g w x (h x f e))

  module _ (i : ℕ) where
    pub process_fits : (p : ProcessTree) (scope : Scope) (taken : List Name) → TypedProcess y (global_names y) i c scope taken p → Scoped Mine scope →
        ((x : Name) → is_among x (global_names y) ≡ true → is_among x taken ≡ true) → PlainProcess p × Speaks y c p
    process_fits Stop scope taken w s g = (tt, tt)
    process_fits Skip scope taken w s g = (tt, tt)
    process_fits (Call k ts) scope taken w s g =
        let q = some_and (slice_get c.definitions k) _ w in (
          args_plain n scope taken (λ x f e. (s x f e).0) (kinds_of q.0.params) ts q.2,
          args_other n scope taken y c (λ x f e. (s x f e).1) (kinds_of q.0.params) ts q.2,
        )
    process_fits (Prefix (event.Output k ts note) p) scope taken w s g =
        let q = some_and (slice_get y.channels k) _ w.0 in
        let ch = q.0 in
        let r = process_fits p scope taken w.1 s g in (
          (
            args_plain n scope taken (λ x f e. (s x f e).0) (kinds_of ch.values) ts q.2.1,
            note_plain n (scope_of ch.values) (names ch.values ++ global_names y) (channel_written k ch q.1) note q.2.2,
            r.0,
          ),
          (
            args_other n scope taken y c (λ x f e. (s x f e).1) (kinds_of ch.values) ts q.2.1,
            (λ ch' e'.
                let same : ch ≡ ch' = some_same ch ch' (sym q.1 ∙ e') in
                subst (λ (z : Channel). NoteOf (names z.values) note) same
                (note_names n (scope_of ch.values) (names ch.values ++ global_names y) (names ch.values) (λ x f e. declared_in n ch.values x f e) note q.2.2)),
            r.1,
          ),
        )
      where
        some_same : (a b : Channel) → Some a ≡ Some b → a ≡ b
        some_same a b e = cc (e)
    process_fits (Prefix (event.Input k xs note) p) scope taken w s g =
        let q = some_and (slice_get y.channels k) _ w.1 in
        let ch = q.0 in
        let s' = new_scope taken xs (scope_at xs ch.values) g w.0 (at_scope xs ch.values) in
        let r = process_fits p (scope_at xs ch.values ++ scope) (xs ++ taken) q.2.3 (both_scopes (scope_at xs ch.values) scope s' s) (more_taken xs taken g) in (
          (
            each_written xs (new_written taken xs w.0),
            note_plain n (scope_at xs ch.values) (xs ++ global_names y) (λ x f e. (s' x f e).0) note q.2.2,
            r.0,
          ),
          (
            each_other xs (new_other taken xs g w.0),
            new_differ taken xs w.0,
            (λ ch' e'. let same : ch ≡ ch' = some_same ch ch' (sym q.1 ∙ e') in subst (λ (z : Channel). length xs ≡ length z.values) same q.2.1),
            note_names n (scope_at xs ch.values) (xs ++ global_names y) xs (at_scope xs ch.values) note q.2.2,
            r.1,
          ),
        )
      where
        some_same : (a b : Channel) → Some a ≡ Some b → a ≡ b
        some_same a b e = cc (e)
    process_fits (Prefix (event.Call k j ts xs) p) scope taken w s g =
        let qm = some_and (slice_get y.machines k) _ w.2 in
        let m = qm.0 in
        let qo = some_and (slice_get m.operations j) _ qm.2 in
        let o = qo.0 in
        let forms = result_forms n m o in
        let s' = new_scope taken xs (scope_with xs forms) g w.1 (with_scope xs forms) in
        let r = process_fits p (scope_with xs forms ++ scope) (xs ++ taken) qo.2.2 (both_scopes (scope_with xs forms) scope s' s) (more_taken xs taken g) in (
          (args_plain n scope taken (λ x f e. (s x f e).0) (kinds_of o.params) ts qo.2.0, each_written xs (new_written taken xs w.1), r.0),
          (w.0, args_other n scope taken y c (λ x f e. (s x f e).1) (kinds_of o.params) ts qo.2.0, each_other xs (new_other taken xs g w.1), r.1),
        )
    process_fits (Choice p q) scope taken w s g =
        let a = process_fits p scope taken w.0 s g in
        let b = process_fits q scope taken w.1 s g in
        ((a.0, b.0), (a.1, b.1))
    process_fits (Internal p q) scope taken w s g =
        let a = process_fits p scope taken w.0 s g in
        let b = process_fits q scope taken w.1 s g in
        ((a.0, b.0), (a.1, b.1))
    process_fits (If f p q) scope taken w s g =
        let a = process_fits p scope taken w.1 s g in
        let b = process_fits q scope taken w.2 s g in (
          (formula_plain n scope taken (λ x h e. (s x h e).0) f w.0, a.0, b.0),
          (formula_names n scope taken (IsOther y c) (λ x h e. (s x h e).1) f w.0, a.1, b.1),
        )

  -- ---- the parts

  plain_machine : (k : ℕ) (m : Machine) → IsAt y.machines k m → PlainMachine m
  plain_machine k m e =
      let mf = fits_of_typed y t k m e in
      let tm = typed_machine y t k m e in record {
        variables = each_written (names m.variables) (variable_written y t k m e);
        invariant = mf.invariant_plain;
        init = mf.init_written;
        operations = λ j o at. record {
          params = each_written (names o.params) (new_written (global_names y) (names o.params) (new_params y t k m e j o (tm.operations j o at)));
          pre = (mf.operations j o at).pre_plain;
          body = (mf.operations j o at).body_written;
        };
      }

  inside : (m : Machine) (o : Operation) (x : Name) (f : Form) → form_in (scope_in m o) x ≡ Some f → IsInside m o x
  inside m o x f e = form_both n (scope_of o.params) (scope_of m.variables) x f (IsInside m o x) e
      (λ h. inl (declared_in n o.params x f h)) (λ h. inr (declared_in n m.variables x f h))

  machine_speaks : (k : ℕ) (m : Machine) → IsAt y.machines k m → MachineSpeaks m
  machine_speaks k m e =
      let tm = typed_machine y t k m e in record {
        pre = λ j o at. formula_names n (scope_in m o) (names o.params ++ result_names o.results ++ global_names y) (IsInside m o) (inside m o) o.pre (tm.operations j o at).precondition;
        body = λ j o at x r. known (IsInside m o) (scope_in m o) (inside m o) x
            (λ none. reads_known n (o.results ++ targets_of m.variables) x o.body (scope_in m o) (names o.params ++ result_names o.results ++ global_names y) (tm.operations j o at).body none r);
        init = init_own y t k m e;
      }

  module _ (i : ℕ) (num : IsNumbered y i c) where
    typed_controller : TypedController y i c
    typed_controller = t.controllers i c num

    params_mine : (d : Definition) → AreNew (global_names y) (names d.params) → Scoped Mine (scope_of d.params)
    params_mine d w = new_scope (global_names y) (names d.params) (scope_of d.params) (λ x e. e) w (λ x f e. declared_in n d.params x f e)

    own_written : (x : Name) → is_own y c x ≡ true → IsWritten x
    own_written x e = let q = own_machine y.machines c.machines x e in variable_written y t q.0 q.1 q.2 x q.3

    definition_fits : (j : ℕ) (d : Definition) → IsAt c.definitions j d → PlainDefinition d × DefinitionSpeaks y c d
    definition_fits j d e =
        let td = typed_controller.definitions j d e in
        let mine = params_mine d td.new_names in
        let r = process_fits i d.body (scope_of d.params) (names d.params ++ global_names y) td.body mine (global_taken (names d.params)) in
        let invariant_written : Scoped IsWritten (scope_of d.params ++ own_scope y c) =
        λ x f h. form_both n (scope_of d.params) (own_scope y c) x f (IsWritten x) h (λ a. (mine x f a).0) (λ b. own_written x (own_scope_own y c x f b)) in
        let invariant_names : Scoped (λ x. Among (names d.params) x ⊎ (is_own y c x ≡ true)) (scope_of d.params ++ own_scope y c) =
        λ x f h. form_both n (scope_of d.params) (own_scope y c) x f (Among (names d.params) x ⊎ (is_own y c x ≡ true)) h (λ a. inl (declared_in n d.params x f a)) (λ b. inr (own_scope_own y c x f b)) in (
          record {
            params = each_written (names d.params) (new_written (global_names y) (names d.params) td.new_names);
            invariant = formula_plain n (scope_of d.params ++ own_scope y c) (names d.params ++ global_names y) invariant_written d.invariant td.invariant;
            body = r.0;
          },
          record {
            params = each_other (names d.params) (new_other (global_names y) (names d.params) (λ x e. e) td.new_names);
            differ = new_differ (global_names y) (names d.params) td.new_names;
            invariant = formula_names n (scope_of d.params ++ own_scope y c) (names d.params ++ global_names y) (λ x. Among (names d.params) x ⊎ (is_own y c x ≡ true)) invariant_names d.invariant td.invariant;
            body = r.1;
          },
        )

    plain_controller : PlainController y c
    plain_controller =
        let q = some_and (slice_get c.definitions c.start) _ typed_controller.start in record {
          channels = λ k ch e. (
            each_written (names ch.values) (new_written (global_names y) (names ch.values) (t.channels k ch e).new_names),
            formula_plain n (scope_of ch.values) (names ch.values ++ global_names y) (channel_written k ch e) ch.assertion (t.channels k ch e).assertion,
          );
          machines = plain_machine;
          definitions = λ j d e. (definition_fits j d e).0;
          start_args = args_plain n [] (global_names y) (λ x f e. cc) (kinds_of q.0.params) c.start_args q.2;
        }

    pub controller_fits : ControllerFits y c
    controller_fits =
        let q = some_and (slice_get c.definitions c.start) _ typed_controller.start in record {
          plain = plain_controller;
          fits = λ k m has e. fits_of_typed y t k m e;
          machines = λ k m has e. machine_speaks k m e;
          channels = λ k ch e. record {
            assertion = formula_names n (scope_of ch.values) (names ch.values ++ global_names y) (Among (names ch.values)) (λ x f h. declared_in n ch.values x f h) ch.assertion (t.channels k ch e).assertion;
            differ = new_differ (global_names y) (names ch.values) (t.channels k ch e).new_names;
          };
          definitions = λ j d e. (definition_fits j d e).1;
          start_args = args_other n [] (global_names y) y c (λ x f e. cc) (kinds_of q.0.params) c.start_args q.2;
          beginnings_fit = begun_fit y t c.machines (machines_differ y.controllers num.0 c num.1.1 t.one_owner);
        }

pub typed_controllers_fit : TypedControllersFit
typed_controllers_fit y t i c num = controller_fits y t c i num
