-- Typed trees have no names but the known ones, and no loose bound variable.
use Rattle.std.proofs.Common.{◌≡◌, ℕ, zero, suc, Bool, true, false, ◌||◌, not, List, [], ◌∷◌, ◌++◌, flat_map, Option, Some, None, IsSome, inl, inr, refl, sym, ap, ◌∙◌, subst, slice_get, if◌then◌else◌, true≢false}
use Rattle.std.proofs.lemmas.Bool.{and_parts}
use Rattle.cb_term.specs.declared.name.Name.{Name}
use Rattle.cb_term.specs.declared.kind.Kind.{Kind}
use Rattle.cb_term.specs.Names.{same_name}
use Rattle.cb_term.specs.Tree.{TermTree, Var, Bound, Num, Truth, Elem, Bin, Neg, Card, Listed, Elems, Truths, Test, TermTrees, FormulaTree, True, False, Rel, Not, And, Or, Implies, Iff, Every, Exist}
use Rattle.cb_term.specs.Tree as tree
use Rattle.cb_term.specs.Values.{Look, set_at}
use Rattle.cb_term.specs.Free.{free_in_term, free_in_terms, free_in}
use Rattle.cb_term.specs.Closed.{IsClosed}
use Rattle.cb_term.proofs.FreeLemmas.{or_left, or_right}
use Rattle.cb_term.proofs.ValueLemmas.{same_name_tells, same_name_self}
use Rattle.cb_seq.specs.Kinds.{kind_in, kind_of}
use Rattle.cb_seq.proofs.KindLemmas.{kind_not_free, fits_not_free, kind_closed, fits_closed}
use Rattle.cb_spec.specs.SubstTree.{SubstTree, Skip, Assign, Together, Choice, If, AnyOf, SubstTrees, End, More}
use Rattle.cb_spec.specs.Stores.{Writes, found}
use Rattle.cb_spec.specs.Bound.{is_among}
use Rattle.cb_spec.specs.Runs.{Runs, RunsOne, reads, one_reads}
use Rattle.cb_spec.specs.Forms.{Form, form_of_domain}
use Rattle.cb_spec.specs.TypedTerms.{Scope, form_in, form_of, TypedFormula, TypedAs}
use Rattle.cb_spec.specs.TypedSubsts.{TypedSubst, TypedSides, always_writes, each_writes}
use Rattle.cb_spec.specs.TypedSubsts as typed
use Rattle.cb_spec.specs.TypedProcesses.{AreNew}
use Rattle.cb_obligations.specs.Written.{EachName, EachNameOfTerm, EachNameOfTerms, IsWritten, IsPlain, IsPlainTerm, AsWritten, AsWrittenEach}
use Rattle.cb_obligations.specs.Sufficing.{Differ}
use Rattle.cb_typed.specs.Erasure.{kind_of_form, kinds_in}
use Rattle.cb_typed.proofs.Erasing.{some_and, term_kind, formula_fits}

-- ---- free names

module _ (These : Name → Type 0) where
  mutual
    pub each_of_term : (t : TermTree) → ((y : Name) → free_in_term y t ≡ true → These y) → EachNameOfTerm These t
    each_of_term (Var x) h = h x (same_name_self x)
    each_of_term (Bin s a b) h = (each_of_term a (λ y e. h y (or_left (free_in_term y a) (free_in_term y b) e)), each_of_term b (λ y e. h y (or_right (free_in_term y a) (free_in_term y b) e)))
    each_of_term (Neg a) h = each_of_term a h
    each_of_term (Card a) h = each_of_term a h
    each_of_term (Listed ts) h = each_of_terms ts h
    each_of_term (Test f) h = each_of f h
    each_of_term t h = tt

    pub each_of_terms : (ts : TermTrees) → ((y : Name) → free_in_terms y ts ≡ true → These y) → EachNameOfTerms These ts
    each_of_terms tree.End h = tt
    each_of_terms (tree.More t ts) h = (each_of_term t (λ y e. h y (or_left (free_in_term y t) (free_in_terms y ts) e)), each_of_terms ts (λ y e. h y (or_right (free_in_term y t) (free_in_terms y ts) e)))

    pub each_of : (f : FormulaTree) → ((y : Name) → free_in y f ≡ true → These y) → EachName These f
    each_of (Rel s a b) h = (each_of_term a (λ y e. h y (or_left (free_in_term y a) (free_in_term y b) e)), each_of_term b (λ y e. h y (or_right (free_in_term y a) (free_in_term y b) e)))
    each_of (Not f) h = each_of f h
    each_of (And f g) h = (each_of f (λ y e. h y (or_left (free_in y f) (free_in y g) e)), each_of g (λ y e. h y (or_right (free_in y f) (free_in y g) e)))
    each_of (Or f g) h = (each_of f (λ y e. h y (or_left (free_in y f) (free_in y g) e)), each_of g (λ y e. h y (or_right (free_in y f) (free_in y g) e)))
    each_of (Implies f g) h = (each_of f (λ y e. h y (or_left (free_in y f) (free_in y g) e)), each_of g (λ y e. h y (or_right (free_in y f) (free_in y g) e)))
    each_of (Iff f g) h = (each_of f (λ y e. h y (or_left (free_in y f) (free_in y g) e)), each_of g (λ y e. h y (or_right (free_in y f) (free_in y g) e)))
    each_of (Every x k f) h = each_of f h
    each_of (Exist x k f) h = each_of f h
    each_of f h = tt

-- ---- known names

-- each name of the scope is one of these
abbrev pub Scoped : (Name → Type 0) → Scope → Type 0
Scoped These scope = (y : Name) (f : Form) → form_in scope y ≡ Some f → These y

pub form_none : (scope : Scope) (x : Name) → form_in scope x ≡ None → kind_in (kinds_in scope) x ≡ None
form_none [] x e = refl
form_none (p ∷ scope) x e = by (same_name x p.0) e (form_none scope x)
  where
    by : (b : Bool) → (if b then Some p.1 else form_in scope x) ≡ None → (form_in scope x ≡ None → kind_in (kinds_in scope) x ≡ None) →
        (if b then Some (kind_of_form p.1) else kind_in (kinds_in scope) x) ≡ None
    by true e r = cc
    by false e r = r e

pub known : (These : Name → Type 0) (scope : Scope) → Scoped These scope → (y : Name) → (form_in scope y ≡ None → ⊥) → These y
known These scope s y n = by (form_in scope y) refl
  where
    by : (o : Option Form) → form_in scope y ≡ o → These y
    by None e = absurd (n e)
    by (Some f) e = s y f e

pub scope_more : (These : Name → Type 0) (scope : Scope) (x : Name) (g : Form) → Scoped These scope → These x → Scoped These ((x, g) ∷ scope)
scope_more These scope x g s h y f e = by (same_name y x) refl e
  where
    by : (b : Bool) → same_name y x ≡ b → (if b then Some g else form_in scope y) ≡ Some f → These y
    by true t e = subst These (sym (same_name_tells y x t)) h
    by false t e = s y f e

module _ (sizes : List ℕ) (scope : Scope) (taken : List Name) where
  pub formula_names : (These : Name → Type 0) → Scoped These scope → (f : FormulaTree) → TypedFormula sizes scope taken [] f → EachName These f
  formula_names These s f w = each_of These f (λ y e. known These scope s y (λ n. fits_not_free sizes (kinds_in scope) y (form_none scope y n) f [] (formula_fits sizes scope taken f [] w) e))

  pub formula_closed : (f : FormulaTree) → TypedFormula sizes scope taken [] f → IsClosed 0 f
  formula_closed f w = fits_closed sizes (kinds_in scope) f [] (formula_fits sizes scope taken f [] w) 0 refl

  pub formula_plain : Scoped IsWritten scope → (f : FormulaTree) → TypedFormula sizes scope taken [] f → IsPlain f
  formula_plain s f w = (formula_names IsWritten s f w, formula_closed f w)

  pub as_kind : (k : Kind) (t : TermTree) → TypedAs sizes scope taken k t → (f : Form) × (kind_of sizes (kinds_in scope) [] t ≡ Some (kind_of_form f)) × (form_of sizes scope [] t ≡ Some f)
  as_kind k t w = let p = some_and (form_of sizes scope [] t) _ w.1 in (p.0, term_kind sizes scope taken t [] false p.0 w.0 p.1, p.1)

  pub term_plain : Scoped IsWritten scope → (k : Kind) (t : TermTree) → TypedAs sizes scope taken k t → IsPlainTerm t
  term_plain s k t w =
      let p = as_kind k t w in (
        each_of_term IsWritten t (λ y e. known IsWritten scope s y (λ n. kind_not_free sizes (kinds_in scope) y (form_none scope y n) t [] (kind_of_form p.0) p.1 e)),
        kind_closed sizes (kinds_in scope) t [] (kind_of_form p.0) p.1 0 refl,
      )

-- ---- substitutions

module _ (sizes : List ℕ) (targets : List (Name × Kind)) where
  mutual
    pub subst_written : ((y : Name) (k : Kind) → typed.kind_of_target targets y ≡ Some k → IsWritten y) → (s : SubstTree) (scope : Scope) (taken : List Name) →
        Scoped IsWritten scope → TypedSubst sizes targets scope taken s → AsWritten s
    subst_written tw Skip scope taken sw w = tt
    subst_written tw (Assign x e) scope taken sw w = let p = some_and (typed.kind_of_target targets x) _ w in (tw x p.0 p.1, term_plain sizes scope taken sw p.0 e p.2)
    subst_written tw (Together a b) scope taken sw w = (subst_written tw a scope taken sw w.0, subst_written tw b scope taken sw w.1)
    subst_written tw (Choice ss) scope taken sw w = sides_written tw ss scope taken sw w
    subst_written tw (If p a b) scope taken sw w = (formula_plain sizes scope taken sw p w.0, (subst_written tw a scope taken sw w.1, subst_written tw b scope taken sw w.2))
    subst_written tw (AnyOf z d p s) scope taken sw w =
        let more = scope_more IsWritten scope z (form_of_domain d) sw w.0.0 in
        (w.0.0, (formula_plain sizes ((z, form_of_domain d) ∷ scope) (z ∷ taken) more p w.3, subst_written tw s ((z, form_of_domain d) ∷ scope) (z ∷ taken) more w.4))

    pub sides_written : ((y : Name) (k : Kind) → typed.kind_of_target targets y ≡ Some k → IsWritten y) → (ss : SubstTrees) (scope : Scope) (taken : List Name) →
        Scoped IsWritten scope → TypedSides sizes targets scope taken ss → AsWrittenEach ss
    sides_written tw End scope taken sw w = tt
    sides_written tw (More s ss) scope taken sw w = (subst_written tw s scope taken sw w.0, sides_written tw ss scope taken sw w.1)

  one_of : (a b : Bool) → (a || b) ≡ true → (a ≡ true → ⊥) → (b ≡ true → ⊥) → ⊥
  one_of true b e p q = p refl
  one_of false b e p q = q e

  -- what is read is known
  module _ (x : Name) where
    unread : (p : FormulaTree) (scope : Scope) (taken : List Name) → TypedFormula sizes scope taken [] p → form_in scope x ≡ None → free_in x p ≡ true → ⊥
    unread p scope taken w n e = fits_not_free sizes (kinds_in scope) x (form_none scope x n) p [] (formula_fits sizes scope taken p [] w) e

    other : (b : Bool) → not b ≡ true → (o : Option Form) (f : Form) → o ≡ None → (if b then Some f else o) ≡ None
    other true e o f n = cc
    other false e o f n = n

    mutual
      pub reads_known : (s : SubstTree) (scope : Scope) (taken : List Name) → TypedSubst sizes targets scope taken s → form_in scope x ≡ None → reads x s ≡ true → ⊥
      reads_known Skip scope taken w n e = cc
      reads_known (Assign y t) scope taken w n e =
          let p = some_and (typed.kind_of_target targets y) _ w in
          let k = as_kind sizes scope taken p.0 t p.2 in
          kind_not_free sizes (kinds_in scope) x (form_none scope x n) t [] (kind_of_form k.0) k.1 e
      reads_known (Together a b) scope taken w n e = one_of (reads x a) (reads x b) e (reads_known a scope taken w.0 n) (reads_known b scope taken w.1 n)
      reads_known (Choice ss) scope taken w n e = one_known ss scope taken w n e
      reads_known (If p a b) scope taken w n e = one_of (free_in x p) (reads x a || reads x b) e (unread p scope taken w.0 n)
          (λ e'. one_of (reads x a) (reads x b) e' (reads_known a scope taken w.1 n) (reads_known b scope taken w.2 n))
      reads_known (AnyOf z d p s) scope taken w n e =
          let b = and_parts (not (same_name x z)) (free_in x p || reads x s) e in
          let n' : form_in ((z, form_of_domain d) ∷ scope) x ≡ None = other (same_name x z) b.0 (form_in scope x) (form_of_domain d) n in
          one_of (free_in x p) (reads x s) b.1 (unread p ((z, form_of_domain d) ∷ scope) (z ∷ taken) w.3 n') (reads_known s ((z, form_of_domain d) ∷ scope) (z ∷ taken) w.4 n')

      pub one_known : (ss : SubstTrees) (scope : Scope) (taken : List Name) → TypedSides sizes targets scope taken ss → form_in scope x ≡ None → one_reads x ss ≡ true → ⊥
      one_known End scope taken w n e = cc
      one_known (More s ss) scope taken w n e = one_of (reads x s) (one_reads x ss) e (reads_known s scope taken w.0 n) (one_known ss scope taken w.1 n)

-- ---- what each run writes

found_front : (d e : Writes) (x : Name) → IsSome (found d x) → IsSome (found (d ++ e) x)
found_front [] e x h = cc
found_front (p ∷ d) e x h = by (same_name x p.0) h (found_front d e x)
  where
    by : (b : Bool) → IsSome (if b then Some p.1 else found d x) → (IsSome (found d x) → IsSome (found (d ++ e) x)) → IsSome (if b then Some p.1 else found (d ++ e) x)
    by true h r = h
    by false h r = r h

found_back : (d e : Writes) (x : Name) → IsSome (found e x) → IsSome (found (d ++ e) x)
found_back [] e x h = h
found_back (p ∷ d) e x h = by (same_name x p.0) (found_back d e x h)
  where
    by : (b : Bool) → IsSome (found (d ++ e) x) → IsSome (if b then Some p.1 else found (d ++ e) x)
    by true r = refl
    by false r = r

either : {C : Type 0} (a b : Bool) → (a || b) ≡ true → (a ≡ true → C) → (b ≡ true → C) → C
either true b e f g = f refl
either false b e f g = g e

module _ (sizes : List ℕ) (x : Name) where
  mutual
    pub run_writes : (s : SubstTree) (look : Look) (d : Writes) → always_writes x s ≡ true → Runs sizes s look d → IsSome (found d x)
    run_writes Skip look d e r = cc
    run_writes (Assign y t) look d e r = subst (λ z. IsSome (found z x)) (sym r.1.1) (subst (λ b. IsSome (if b then Some r.0 else None)) (sym e) refl)
    run_writes (Together a b) look d e r = subst (λ z. IsSome (found z x)) (sym r.1.1.3)
        (either (always_writes x a) (always_writes x b) e (λ h. found_front r.0 r.1.0 x (run_writes a look r.0 h r.1.1.0)) (λ h. found_back r.0 r.1.0 x (run_writes b look r.1.0 h r.1.1.1)))
    run_writes (Choice ss) look d e r = side_writes ss look d e r
    run_writes (If p a b) look d e r =
        let q = and_parts (always_writes x a) (always_writes x b) e in
        elim r [ inl t ↦ run_writes a look d q.0 t.1 | inr t ↦ run_writes b look d q.1 t.1 ]
    run_writes (AnyOf z dom p s) look d e r = run_writes s (set_at look z r.0) d e r.1.2

    pub side_writes : (ss : SubstTrees) (look : Look) (d : Writes) → each_writes x ss ≡ true → RunsOne sizes ss look d → IsSome (found d x)
    side_writes End look d e r = absurd r
    side_writes (More s ss) look d e r =
        let q = and_parts (always_writes x s) (each_writes x ss) e in
        elim r [ inl t ↦ run_writes s look d q.0 t | inr t ↦ side_writes ss look d q.1 t ]

-- ---- new names

pub new_written : (taken xs : List Name) → AreNew taken xs → (y : Name) → is_among y xs ≡ true → IsWritten y
new_written taken [] n y e = cc
new_written taken (x ∷ xs) n y e = by (same_name y x) refl e (new_written (x ∷ taken) xs n.1 y)
  where
    by : (b : Bool) → same_name y x ≡ b → (b || is_among y xs) ≡ true → (is_among y xs ≡ true → IsWritten y) → IsWritten y
    by true s e r = subst IsWritten (sym (same_name_tells y x s)) n.0.0
    by false s e r = r e

pub new_apart : (taken xs : List Name) → AreNew taken xs → (y : Name) → is_among y taken ≡ true → is_among y xs ≡ false
new_apart taken [] n y e = refl
new_apart taken (x ∷ xs) n y e = by (same_name y x) refl (new_apart (x ∷ taken) xs n.1 y (or_right (same_name y x) (is_among y taken) e))
  where
    by : (b : Bool) → same_name y x ≡ b → is_among y xs ≡ false → (b || is_among y xs) ≡ false
    by true s r = absurd (true≢false (sym e ∙ ap (λ z. is_among z taken) (same_name_tells y x s) ∙ n.0.1))
    by false s r = r

pub new_differ : (taken xs : List Name) → AreNew taken xs → Differ xs
new_differ taken [] n = tt
new_differ taken (x ∷ xs) n = (new_apart (x ∷ taken) xs n.1 x (or_left (same_name x x) (is_among x taken) (same_name_self x)), new_differ (x ∷ taken) xs n.1)

pub new_front : (taken xs ys : List Name) → AreNew taken (xs ++ ys) → AreNew taken xs
new_front taken [] ys n = tt
new_front taken (x ∷ xs) ys n = (n.0, new_front (x ∷ taken) xs ys n.1)

pub new_back : (taken xs ys : List Name) → AreNew taken (xs ++ ys) → (t : List Name) × AreNew t ys
new_back taken [] ys n = (taken, n)
new_back taken (x ∷ xs) ys n = new_back (x ∷ taken) xs ys n.1

pub new_at : {A : Type 0} (f : A → List Name) (as' : List A) (taken : List Name) → AreNew taken (flat_map f as') → (k : ℕ) (a : A) → slice_get as' k ≡ Some a → (t : List Name) × AreNew t (f a)
new_at f [] taken n k a e = cc
new_at f (b ∷ as') taken n zero a e = let same : b ≡ a = cc (e) in (taken, subst (λ z. AreNew taken (f z)) same (new_front taken (f b) (flat_map f as') n))
new_at f (b ∷ as') taken n (suc k) a e = let r = new_back taken (f b) (flat_map f as') n in new_at f as' r.0 r.1 k a e

pub among_front : (y : Name) (xs ys : List Name) → is_among y xs ≡ true → is_among y (xs ++ ys) ≡ true
among_front y [] ys e = cc
among_front y (x ∷ xs) ys e = by (same_name y x) e (among_front y xs ys)
  where
    by : (b : Bool) → (b || is_among y xs) ≡ true → (is_among y xs ≡ true → is_among y (xs ++ ys) ≡ true) → (b || is_among y (xs ++ ys)) ≡ true
    by true e r = refl
    by false e r = r e

pub among_back : (y : Name) (xs ys : List Name) → is_among y ys ≡ true → is_among y (xs ++ ys) ≡ true
among_back y [] ys e = e
among_back y (x ∷ xs) ys e = or_right (same_name y x) (is_among y (xs ++ ys)) (among_back y xs ys e)

pub among_at : {A : Type 0} (f : A → List Name) (as' : List A) (k : ℕ) (a : A) (y : Name) → slice_get as' k ≡ Some a → is_among y (f a) ≡ true → is_among y (flat_map f as') ≡ true
among_at f [] k a y e h = cc
among_at f (b ∷ as') zero a y e h = let same : b ≡ a = cc (e) in among_front y (f b) (flat_map f as') (subst (λ z. is_among y (f z) ≡ true) (sym same) h)
among_at f (b ∷ as') (suc k) a y e h = among_back y (f b) (flat_map f as') (among_at f as' k a y e h)
