-- The formula of a process says that it may go on.
use Rattle.std.proofs.Common.{◌≡◌, ℕ, zero, suc, Bool, true, false, ◌||◌, List, [], ◌∷◌, ◌++◌, ◌⊎◌, inl, inr, length, Option, Some, None, slice_get, ◌↔◌, refl, sym, ap, ◌∙◌, subst, if◌then◌else◌, true≢false}
use Rattle.std.specs.Prelude.{Contains, IsSomeAnd}
use Rattle.cb_term.specs.declared.name.Name.{Name}
use Rattle.cb_term.specs.declared.value.Value.{Value}
use Rattle.cb_term.specs.Names.{same_name}
use Rattle.cb_term.proofs.ValueLemmas.{same_name_tells}
use Rattle.cb_term.specs.Tree.{TermTree, FormulaTree, Implies}
use Rattle.cb_term.specs.Values.{Look}
use Rattle.cb_term.specs.Holds.{Holds}
use Rattle.cb_term.specs.Closed.{IsClosed}
use Rattle.cb_spec.specs.declared.event.Event.TheVariants as event
use Rattle.cb_spec.specs.declared.system.Channel.{Channel}
use Rattle.cb_spec.specs.declared.system.Controller.{Controller}
use Rattle.cb_spec.specs.declared.system.Declared.{Declared}
use Rattle.cb_spec.specs.declared.system.Machine.{Machine}
use Rattle.cb_spec.specs.declared.system.System.{System}
use Rattle.cb_spec.specs.ProcessTree.{ProcessTree, Stop, Skip, Call, Prefix, Choice, Internal, If}
use Rattle.cb_spec.specs.Stores.{Writes, over, empty}
use Rattle.cb_spec.specs.Bound.{names, is_among, bind, bound_look, only, AreOfKinds}
use Rattle.cb_spec.specs.Machines.{kept}
use Rattle.cb_spec.specs.Journals.{set_sizes, results_after}
use Rattle.cb_spec.specs.Settling.{AreValues}
use Rattle.cb_spec.specs.States.{IsAt}
use Rattle.cb_spec.specs.Sound.{Guaranteed, Assumed, Sat}
use Rattle.cb_spec.proofs.RunLemmas.{runs_agree}
use Rattle.cb_obligations.specs.Written.{EachName}
use Rattle.cb_obligations.specs.Sufficing.{Differ, IsVariable}
use Rattle.cb_obligations.proofs.NameLemmas.{agree_holds}
use Rattle.cb_obligations.proofs.Calls.{over_agrees, over_outside, at_some}
use Rattle.cb_conditions.specs.Reading.{replaced, terms_at}
use Rattle.cb_conditions.specs.Conditions.{for_found, if_there, listed, variables_of, declared_as, vars, guarantee, assumption, asked, wc}
use Rattle.cb_conditions.specs.Fitting.{PlainProcess}
use Rattle.cb_conditions.specs.Sufficing.{Among, is_own, IsOther, EachIsOther, OfOthers, NoteOf, Speaks, IsInside, ControllerFits, merged, CallsKinded, WcSuffices}
use Rattle.cb_conditions.proofs.Closing.{plain_closed, vars_closed, assumption_closed, wc_closed}
use Rattle.cb_conditions.proofs.Values.{over_append, bind_among, only_outside, replaced_holds, args_values, EachOfTerms, values_agree, for_all_at, vars_values, typings_hold, typings_tell, names_as, kinds_as, in_as, in_kinds, many_as}
use Rattle.cb_conditions.proofs.Operations.{after_each}

-- ---- a machine's variables are the controller's

pub among_left : (x : Name) (ds es : List Declared) → is_among x (names ds) ≡ true → is_among x (names (ds ++ es)) ≡ true
among_left x [] es e = cc
among_left x (d ∷ ds) es e = by _ e (among_left x ds es)
  where
    by : (b : Bool) → (b || is_among x (names ds)) ≡ true → (is_among x (names ds) ≡ true → is_among x (names (ds ++ es)) ≡ true) → (b || is_among x (names (ds ++ es))) ≡ true
    by true e r = refl
    by false e r = r e

pub among_right : (x : Name) (ds es : List Declared) → is_among x (names es) ≡ true → is_among x (names (ds ++ es)) ≡ true
among_right x [] es e = e
among_right x (d ∷ ds) es e = by _ (among_right x ds es e)
  where
    by : (b : Bool) → is_among x (names (ds ++ es)) ≡ true → (b || is_among x (names (ds ++ es))) ≡ true
    by true r = refl
    by false r = r

listed_own : (ms : List Machine) (ks : List ℕ) (j k : ℕ) (m : Machine) (x : Name) → IsAt ks j k → IsAt ms k m → IsVariable m x → is_among x (names (variables_of (listed ms ks))) ≡ true
listed_own ms [] j k m x at am v = cc
listed_own ms (i ∷ ks) zero k m x at am v =
    let same : i ≡ k = cc (at) in
    let found : slice_get ms i ≡ Some m = ap (slice_get ms) same ∙ am in
    subst (λ o. is_among x (names (variables_of (if_there o (listed ms ks)))) ≡ true) (sym found) (among_left x m.variables (variables_of (listed ms ks)) v)
listed_own ms (i ∷ ks) (suc j) k m x at am v = by (slice_get ms i) (listed_own ms ks j k m x at am v)
  where
    by : (o : Option Machine) → is_among x (names (variables_of (listed ms ks))) ≡ true → is_among x (names (variables_of (if_there o (listed ms ks)))) ≡ true
    by None e = e
    by (Some n) e = among_right x n.variables (variables_of (listed ms ks)) e

pub own_variable : (y : System) (c : Controller) (k : ℕ) (m : Machine) → Contains c.machines k → IsAt y.machines k m → (x : Name) → IsVariable m x → is_own y c x ≡ true
own_variable y c k m has am x v = let at = at_some c.machines k has in listed_own y.machines c.machines at.0 k m x at.1 am v

-- ---- the merged look-up

module _ (own : Name → Bool) where
  pub merged_own : (env store : Look) (x : Name) → own x ≡ true → merged own env store x ≡ store x
  merged_own env store x e = ap (λ b. if b then store x else env x) e

  pub merged_other : (env store : Look) (x : Name) → own x ≡ false → merged own env store x ≡ env x
  merged_other env store x e = ap (λ b. if b then store x else env x) e

  abbrev Others : List Name → Type 0
  Others [] = Unit {0}
  Others (x ∷ xs) = (own x ≡ false) × Others xs

  other_among : (y : Name) (xs : List Name) → Others xs → is_among y xs ≡ true → own y ≡ false
  other_among y [] os e = cc
  other_among y (x ∷ xs) os e = by (same_name y x) refl e (other_among y xs os.1)
    where
      by : (b : Bool) → same_name y x ≡ b → (b || is_among y xs) ≡ true → (is_among y xs ≡ true → own y ≡ false) → own y ≡ false
      by true s e r = ap own (same_name_tells y x s) ∙ os.0
      by false s e r = r e

  own_outside : (xs : List Name) → Others xs → (y : Name) → own y ≡ true → is_among y xs ≡ false
  own_outside xs os y e = by (is_among y xs) refl
    where
      by : (b : Bool) → is_among y xs ≡ b → b ≡ false
      by true a = absurd (true≢false (sym e ∙ other_among y xs os a))
      by false a = refl

  -- names that are not the machines' variables may be bound before or after
  pub merged_bind : (xs : List Name) → Others xs → (vs : List Value) (env store : Look) (y : Name) →
      over (bind xs vs) (merged own env store) y ≡ merged own (over (bind xs vs) env) store y
  merged_bind xs os vs env store y = by (own y) refl
    where
      by : (b : Bool) → own y ≡ b → over (bind xs vs) (merged own env store) y ≡ (if b then store y else over (bind xs vs) env y)
      by true e = over_outside xs vs (merged own env store) y (own_outside xs os y e) ∙ merged_own env store y e
      by false e = over_agrees (bind xs vs) (merged own env store) env y (merged_other env store y e)

  -- and what is written to variables goes to the store
  pub merged_after : (xs : List Name) → Others xs → (ns : List Name) → ((x : Name) → is_among x ns ≡ true → own x ≡ true) → (vs : List Value) (d : Writes) (env store : Look) (y : Name) →
      over (bind xs vs ++ only ns d) (merged own env store) y ≡ merged own (over (bind xs vs) env) (over (only ns d) store) y
  merged_after xs os ns all vs d env store y = over_append (bind xs vs) (only ns d) (merged own env store) y ∙ by (own y) refl
    where
      not_there : own y ≡ false → is_among y ns ≡ false
      not_there e = at (is_among y ns) refl
        where
          at : (b : Bool) → is_among y ns ≡ b → b ≡ false
          at true a = absurd (true≢false (sym (all y a) ∙ e))
          at false a = refl

      by : (b : Bool) → own y ≡ b → over (bind xs vs) (over (only ns d) (merged own env store)) y ≡ (if b then over (only ns d) store y else over (bind xs vs) env y)
      by true e = over_outside xs vs (over (only ns d) (merged own env store)) y (own_outside xs os y e) ∙ over_agrees (only ns d) (merged own env store) store y (merged_own env store y e)
      by false e = over_agrees (bind xs vs) (over (only ns d) (merged own env store)) env y
          (only_outside ns d (merged own env store) y (not_there e) ∙ merged_other env store y e)

-- ---- the proof

found_and : {A : Type 0} (sizes : List ℕ) (u : Look) (o : Option A) (f : A → FormulaTree) (G : A → Type 0) → ((a : A) → o ≡ Some a → Holds sizes u (f a) [] → G a) →
    Holds sizes u (for_found o f) [] → IsSomeAnd o G
found_and sizes u None f G go h = absurd h
found_and sizes u (Some a) f G go h = go a refl h

module _ (y : System) (c : Controller) (fits : ControllerFits y c) where
  abbrev n : List ℕ
  n = set_sizes y

  abbrev own : Name → Bool
  own = is_own y c

  pub others : (xs : List Name) → EachIsOther y c xs → Others own xs
  others [] h = tt
  others (x ∷ xs) h = (h.0, others xs h.1)

  other_terms : (ts : List TermTree) → OfOthers y c ts → EachOfTerms [] (IsOther y c) ts
  other_terms [] h = tt
  other_terms (t ∷ ts) h = (h.0, other_terms ts h.1)

  -- the channel's assertion, over the names that get the values
  module _ (s : Look) (ch : Channel) (xs : List Name) (vs : List Value) (len : length xs ≡ length ch.values) (df : Differ xs) (k : AreOfKinds n ch.values vs)
      (a : EachName (Among (names ch.values)) ch.assertion) where
    pub over_inputs : Holds n (over (bind xs vs) s) (replaced (terms_at (names ch.values) (vars xs)) ch.assertion) [] ↔ Holds n (bound_look (names ch.values) vs) ch.assertion []
    over_inputs =
        let l = over (bind xs vs) s in
        let ps = names ch.values in
        let r = replaced_holds n l (terms_at ps (vars xs)) (bind ps vs) (vars_closed ps xs) (args_values n ps (vars xs) l vs (vars_values n xs vs l s (many_as n xs ch.values vs len k) df (λ x m. refl))) ch.assertion in
        let g = agree_holds n (over (bind ps vs) l) (bound_look ps vs) (Among ps) (λ x m. bind_among ps vs l empty x m) ⊥ ch.assertion [] a in
        ((λ h. g.0 (r.0 h)), (λ h. r.1 (g.1 h)))

  module _ (env store : Look) where
    abbrev u : Look
    u = merged own env store

    here : (ts : List TermTree) (vs : List Value) → OfOthers y c ts → AreValues n env ts vs → AreValues n u ts vs
    here ts vs os a = values_agree n (IsOther y c) env u (λ x e. sym (merged_other own env store x e)) ts vs (other_terms ts os) a

    pub call_goes : (k : ℕ) (ts : List TermTree) → PlainProcess (Call k ts) → Speaks y c (Call k ts) → CallsKinded y c (Call k ts) env store →
        Holds n u (wc y c (Call k ts)) [] → Sat y c (Call k ts) env store
    call_goes k ts p s ck h = found_and n u (slice_get c.definitions k) _ _
        (λ d e hd vs av.
        let fd = fits.definitions k d e in
        let ps = names d.params in
        let q = (replaced_holds n u (terms_at ps ts) (bind ps vs) (plain_closed ps ts p) (args_values n ps ts u vs (here ts vs s av)) (asked d)).0 hd in (
          typings_tell n d.params vs (over (bind ps vs) u) u (ck d e vs av) fd.differ (λ x m. refl) q.0,
          (agree_holds n (over (bind ps vs) u) (over (bind ps vs) store) (λ x. Among ps x ⊎ (own x ≡ true))
              (λ x m. elim m [ inl a ↦ bind_among ps vs u store x a | inr o ↦ over_agrees (bind ps vs) u store x (merged_own own env store x o) ]) ⊥ d.invariant [] fd.invariant).0 q.1,
        )) h

    sent : (k : ℕ) (ch : Channel) → IsAt y.channels k ch → (ts : List TermTree) (note : Option FormulaTree) (vs : List Value) → NoteOf (names ch.values) note →
        Holds n (over (bind (names ch.values) vs) u) (guarantee ch note) [] → Guaranteed y ch note vs
    sent k ch e ts None vs nt h = (agree_holds n (over (bind (names ch.values) vs) u) (bound_look (names ch.values) vs) (Among (names ch.values))
        (λ x a. bind_among (names ch.values) vs u empty x a) ⊥ ch.assertion [] (fits.channels k ch e).assertion).0 h
    sent k ch e ts (Some f) vs nt h = (agree_holds n (over (bind (names ch.values) vs) u) (bound_look (names ch.values) vs) (Among (names ch.values))
        (λ x a. bind_among (names ch.values) vs u empty x a) ⊥ f [] nt).0 h

    got_kinds : (ch : Channel) (xs : List Name) (note : Option FormulaTree) (vs : List Value) → Assumed y ch xs note vs → AreOfKinds n ch.values vs
    got_kinds ch xs None vs a = a.0
    got_kinds ch xs (Some f) vs a = in_kinds n ch.values vs a.0

    got : (k : ℕ) (ch : Channel) → IsAt y.channels k ch → (xs : List Name) (note : Option FormulaTree) (vs : List Value) → length xs ≡ length ch.values → Differ xs → NoteOf xs note →
        Assumed y ch xs note vs → Holds n (over (bind xs vs) u) (assumption ch xs note) []
    got k ch e xs None vs len df nt a = (over_inputs u ch xs vs len df a.0 (fits.channels k ch e).assertion).1 a.1
    got k ch e xs (Some f) vs len df nt a =
        let ds = declared_as xs ch.values in
        let same = names_as n xs ch.values len in (
          typings_hold n ds vs (over (bind xs vs) u) u (in_as n xs ch.values vs len a.0) (subst Differ (sym same) df) (λ x m. ap (λ zs. over (bind zs vs) u x) (sym same)),
          (agree_holds n (bound_look xs vs) (over (bind xs vs) u) (Among xs) (λ x m. bind_among xs vs empty u x m) ⊥ f [] nt).0 a.1,
        )

  pub suffices : (p : ProcessTree) → PlainProcess p → Speaks y c p → (env store : Look) → CallsKinded y c p env store → Holds n (merged own env store) (wc y c p) [] → Sat y c p env store
  suffices Stop pp sp env store ck h = tt
  suffices Skip pp sp env store ck h = tt
  suffices (Call k ts) pp sp env store ck h = call_goes env store k ts pp sp ck h
  suffices (Prefix (event.Output k ts note) p) pp sp env store ck h = (
    found_and n (merged own env store) (slice_get y.channels k) _ _
        (λ ch e hc vs av.
        let ps = names ch.values in
        sent env store k ch e ts note vs (sp.1 ch e)
        ((replaced_holds n (merged own env store) (terms_at ps ts) (bind ps vs) (plain_closed ps ts pp.0) (args_values n ps ts (merged own env store) vs (here env store ts vs sp.0 av)) (guarantee ch note)).0 hc)) h.0,
    suffices p pp.2 sp.2 env store ck h.1,
  )
  suffices (Prefix (event.Input k xs note) p) pp sp env store ck h = found_and n (merged own env store) (slice_get y.channels k) _ _
      (λ ch e hc vs a.
      let u = merged own env store in
      let len = sp.2 ch e in
      let ds = declared_as xs ch.values in
      let same = names_as n xs ch.values len in
      let kinds = got_kinds env store ch xs note vs a in
      let cf : IsClosed 0 (Implies (assumption ch xs note) (wc y c p)) = (assumption_closed ch xs note (fits.plain.channels k ch e).1 pp.1, wc_closed y c fits.plain p pp.2) in
      let all = for_all_at n u (Implies (assumption ch xs note) (wc y c p)) cf ds (subst Differ (sym same) sp.1) hc vs (kinds_as n xs ch.values vs len kinds) in
      let all' : Holds n (over (bind xs vs) u) (Implies (assumption ch xs note) (wc y c p)) [] = subst (λ zs. Holds n (over (bind zs vs) u) (Implies (assumption ch xs note) (wc y c p)) []) same all in
      suffices p pp.2 sp.4 (over (bind xs vs) env) store (ck ch e vs kinds)
      (subst (λ l. Holds n l (wc y c p) []) (λ i x. merged_bind own xs (others xs sp.0) vs env store x i) (all' (got env store k ch e xs note vs len sp.1 sp.3 a)))) h
  suffices (Prefix (event.Call k j ts xs) p) pp sp env store ck h = found_and n (merged own env store) (slice_get y.machines k) _ _
      (λ m em hm. found_and n (merged own env store) (slice_get m.operations j) _ _
      (λ o eo ho vs av.
      let u = merged own env store in
      let ps = names o.params in
      let mine : (x : Name) → IsVariable m x → own x ≡ true = own_variable y c k m sp.0 em in
      let au = here env store ts vs sp.1 av in
      let ms = fits.machines k m sp.0 em in
      let mf = fits.fits k m sp.0 em in
      let pm = fits.plain.machines k m em in
      let po = pm.operations j o eo in
      let inside : (x : Name) → IsInside m o x → over (bind ps vs) u x ≡ over (bind ps vs) store x =
      λ x i. elim i [ inl a ↦ bind_among ps vs u store x a | inr v ↦ over_agrees (bind ps vs) u store x (merged_own own env store x (mine x v)) ] in
      let pre = (replaced_holds n u (terms_at ps ts) (bind ps vs) (plain_closed ps ts pp.0) (args_values n ps ts u vs au) o.pre).0 ho.0 in (
        (agree_holds n (over (bind ps vs) u) (over (bind ps vs) store) (IsInside m o) inside ⊥ o.pre [] (ms.pre j o eo)).0 pre,
        (λ d r inv.
            let rs = results_after o d in
            let ru = runs_agree n o.body (over (bind ps vs) store) (over (bind ps vs) u) (λ x e. sym (inside x (ms.body j o eo x e))) d r in
            let after = after_each n m o ts xs vs (Implies m.invariant (wc y c p)) u po.params pp.0 po.body (mf.operations j o eo).body_fits (pm.invariant.1, wc_closed y c fits.plain p pp.2) au ho.1 d ru in
            let l = merged own (over (bind xs rs) env) (kept m d store) in
            let after' : Holds n l (Implies m.invariant (wc y c p)) [] = subst (λ l'. Holds n l' (Implies m.invariant (wc y c p)) [])
            (λ i x. merged_after own xs (others xs sp.2) (names m.variables) mine rs d env store x i) after in
            suffices p pp.2 sp.3 (over (bind xs rs) env) (kept m d store) (ck m em o eo vs av d r)
            (after' ((agree_holds n (kept m d store) l (IsVariable m) (λ x v. sym (merged_own own (over (bind xs rs) env) (kept m d store) x (mine x v))) ⊥ m.invariant [] mf.invariant_names).0 inv))),
      )) hm) h
  suffices (Choice p q) pp sp env store ck h = (suffices p pp.0 sp.0 env store ck.0 h.0, suffices q pp.1 sp.1 env store ck.1 h.1)
  suffices (Internal p q) pp sp env store ck h = (suffices p pp.0 sp.0 env store ck.0 h.0, suffices q pp.1 sp.1 env store ck.1 h.1)
  suffices (If f p q) pp sp env store ck h =
      let same = agree_holds n env (merged own env store) (IsOther y c) (λ x e. sym (merged_other own env store x e)) ⊥ f [] sp.0 in (
        (λ t. suffices p pp.1 sp.1 env store ck.0 (h.0 (same.0 t))),
        (λ t. suffices q pp.2 sp.2 env store ck.1 (h.1 (λ hf. t (same.1 hf)))),
      )

pub wc_suffices : WcSuffices
wc_suffices y c fits p pp sp env store ck h = suffices y c fits p pp sp env store ck h
