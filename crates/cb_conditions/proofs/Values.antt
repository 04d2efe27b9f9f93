-- What replaced trees mean, and what names stand for when others are written over them.
use Rattle.std.proofs.Common.{◌≡◌, ℕ, ◌+◌, Bool, true, false, ◌||◌, List, [], ◌∷◌, ◌++◌, length, ◌↔◌, refl, sym, ap, ◌∙◌, subst, arith, if◌then◌else◌, slice_index_or, true≢false}
use Rattle.cb_term.specs.declared.name.Name.{Name}
use Rattle.cb_term.specs.declared.value.Value.{Value}
use Rattle.cb_term.specs.Names.{same_name}
use Rattle.cb_term.specs.Tree.{TermTree, FormulaTree}
use Rattle.cb_term.specs.Values.{Look, nothing, set_at, IsOf}
use Rattle.cb_term.specs.Holds.{Holds, IsValue}
use Rattle.cb_term.specs.Closed.{IsClosed}
use Rattle.cb_term.specs.Change.{bound_stays}
use Rattle.cb_term.proofs.ChangeLemmas.{mapped_meets, mapped_holds}
use Rattle.cb_term.proofs.ClosedLemmas.{closed_holds, value_closed}
use Rattle.cb_term.proofs.ValueLemmas.{same_name_tells, same_name_self, value_stable}
use Rattle.cb_spec.specs.declared.system.Declared.{Declared}
use Rattle.cb_spec.specs.Domains.{kind_of_domain, In}
use Rattle.cb_spec.specs.Stores.{Writes, over, empty}
use Rattle.cb_spec.specs.Bound.{names, is_among, bind, only, AreOfKinds, AreIn}
use Rattle.cb_spec.specs.Settling.{AreValues}
use Rattle.cb_spec.proofs.DomainLemmas.{domain_typing}
use Rattle.cb_obligations.specs.Written.{EachNameOfTerm}
use Rattle.cb_obligations.specs.Branches.{Item, Bind, Guard, Assigned}
use Rattle.cb_obligations.specs.Owed.{for_all}
use Rattle.cb_obligations.specs.Sufficing.{Differ}
use Rattle.cb_obligations.proofs.NameLemmas.{agree_meets}
use Rattle.cb_obligations.proofs.Stores.{set_here, set_other}
use Rattle.cb_obligations.proofs.Formulas.{ValuesAre, Steady, SteadyItems, SteadyWrites}
use Rattle.cb_obligations.proofs.Calls.{over_agrees, args_agree, for_all_gives}
use Rattle.cb_conditions.specs.Reading.{itself, with_terms, meaning_at, read_term, replaced, replaced_each, terms_at}
use Rattle.cb_conditions.specs.Conditions.{typings, declared_as, vars}
use Rattle.cb_conditions.proofs.Readings.{AreClosed}
use Rattle.cb_conditions.proofs.Closing.{GuardsClosed}

-- ---- look-ups

pub over_append : (d e : Writes) (s : Look) (y : Name) → over (d ++ e) s y ≡ over d (over e s) y
over_append [] e s y = refl
over_append (p ∷ d) e s y = ap (λ v. if same_name y p.0 then p.1 else v) (over_append d e s y)

-- what is bound does not ask what was there before
pub bind_among : (xs : List Name) (vs : List Value) (s t : Look) (y : Name) → is_among y xs ≡ true → over (bind xs vs) s y ≡ over (bind xs vs) t y
bind_among [] vs s t y e = cc
bind_among (x ∷ xs) [] s t y e = by (same_name y x) e (bind_among xs [] s t y)
  where
    by : (b : Bool) → (b || is_among y xs) ≡ true → (is_among y xs ≡ true → over (bind xs []) s y ≡ over (bind xs []) t y) →
        (if b then nothing else over (bind xs []) s y) ≡ (if b then nothing else over (bind xs []) t y)
    by true e r = refl
    by false e r = r e
bind_among (x ∷ xs) (v ∷ vs) s t y e = by (same_name y x) e (bind_among xs vs s t y)
  where
    by : (b : Bool) → (b || is_among y xs) ≡ true → (is_among y xs ≡ true → over (bind xs vs) s y ≡ over (bind xs vs) t y) →
        (if b then v else over (bind xs vs) s y) ≡ (if b then v else over (bind xs vs) t y)
    by true e r = refl
    by false e r = r e

pub bind_alike : (xs : List Name) (vs : List Value) (s t : Look) (y : Name) → ((is_among y xs ≡ false) → s y ≡ t y) → over (bind xs vs) s y ≡ over (bind xs vs) t y
bind_alike xs vs s t y h = by (is_among y xs) refl
  where
    by : (b : Bool) → is_among y xs ≡ b → over (bind xs vs) s y ≡ over (bind xs vs) t y
    by true e = bind_among xs vs s t y e
    by false e = over_agrees (bind xs vs) s t y (h e)

-- what is written to other names
pub only_outside : (xs : List Name) (d : Writes) (s : Look) (y : Name) → is_among y xs ≡ false → over (only xs d) s y ≡ s y
only_outside xs [] s y e = refl
only_outside xs (p ∷ d) s y e = by (is_among p.0 xs) refl (only_outside xs d s y e)
  where
    apart : (b : Bool) → same_name y p.0 ≡ b → is_among p.0 xs ≡ true → over (only xs d) s y ≡ s y → (if b then p.1 else over (only xs d) s y) ≡ s y
    apart true s' n r = absurd (true≢false (sym n ∙ ap (λ z. is_among z xs) (sym (same_name_tells y p.0 s')) ∙ e))
    apart false s' n r = r

    by : (b : Bool) → is_among p.0 xs ≡ b → over (only xs d) s y ≡ s y → over (if b then p ∷ only xs d else only xs d) s y ≡ s y
    by true n r = apart (same_name y p.0) refl n r
    by false n r = r

module _ (sizes : List ℕ) where
  -- ---- replaced trees

  abbrev Alone : ℕ → List Value → List Value → Type 0
  Alone k env env' = env ≡ env'

  alone_more : (k : ℕ) (env env' : List Value) (v : Value) → Alone k env env' → Alone (k + 1) (v ∷ env) (v ∷ env')
  alone_more k env env' v r = ap (λ e. v ∷ e) r

  module _ (u : Look) where
    pub with_terms_value : (ws : Assigned) (d : Writes) → AreClosed ws → ValuesAre sizes ws u d → (y : Name) (env : List Value) → IsValue sizes u (with_terms ws itself y) env (over d u y)
    with_terms_value [] [] c va y env = refl
    with_terms_value [] (p ∷ d) c va y env = absurd va
    with_terms_value (w ∷ ws) [] c va y env = absurd va
    with_terms_value (w ∷ ws) (p ∷ d) c va y env =
        subst (λ x. IsValue sizes u (with_terms (w ∷ ws) itself y) env (if same_name y x then p.1 else over d u y)) va.0
        (by (same_name y w.0) (with_terms_value ws d c.1 va.2 y env))
      where
        by : (b : Bool) → IsValue sizes u (with_terms ws itself y) env (over d u y) →
            IsValue sizes u (if b then w.1 else with_terms ws itself y) env (if b then p.1 else over d u y)
        by true h = value_closed sizes u w.1 p.1 c.0 va.1 env
        by false h = h

    module _ (ws : Assigned) (d : Writes) (c : AreClosed ws) (va : ValuesAre sizes ws u d) where
      pub replaced_holds : (f : FormulaTree) → Holds sizes u (replaced ws f) [] ↔ Holds sizes (over d u) f []
      replaced_holds f = mapped_holds sizes u (over d u) (meaning_at (with_terms ws itself)) bound_stays Alone alone_more
          (λ k y env env' r. with_terms_value ws d c va y env) (λ k j env env' r. ap (λ e. slice_index_or e j nothing) r) ⊥ f 0 [] [] refl

      pub replaced_value : (t : TermTree) (v : Value) → IsValue sizes u (read_term (with_terms ws itself) t) [] v ↔ IsValue sizes (over d u) t [] v
      replaced_value t v = mapped_meets sizes u (over d u) (meaning_at (with_terms ws itself)) bound_stays Alone alone_more
          (λ k y env env' r. with_terms_value ws d c va y env) (λ k j env env' r. ap (λ e. slice_index_or e j nothing) r) t 0 [] [] (λ w. w ≡ v) refl (λ w. value_stable w v)

      pub replaced_values : (us : Assigned) (e : Writes) → ValuesAre sizes us (over d u) e → ValuesAre sizes (replaced_each ws us) u e
      replaced_values [] [] h = tt
      replaced_values [] (p ∷ e) h = absurd h
      replaced_values (w ∷ us) [] h = absurd h
      replaced_values (w ∷ us) (p ∷ e) h = (h.0, (replaced_value w.1 p.1).1 h.1, replaced_values us e h.2)

  -- terms for names, by their values
  pub args_values : (xs : List Name) (ts : List TermTree) (u : Look) (vs : List Value) → AreValues sizes u ts vs → ValuesAre sizes (terms_at xs ts) u (bind xs vs)
  args_values [] ts u vs h = tt
  args_values (x ∷ xs) [] u [] h = (refl, refl, args_values xs [] u [] tt)
  args_values (x ∷ xs) [] u (v ∷ vs) h = absurd h
  args_values (x ∷ xs) (t ∷ ts) u [] h = absurd h
  args_values (x ∷ xs) (t ∷ ts) u (v ∷ vs) h = (refl, h.0, args_values xs ts u vs h.1)

  -- the same values where names stand for the same
  abbrev pub EachOfTerms : (Name → Type 0) → List TermTree → Type 0
  EachOfTerms P [] = Unit {0}
  EachOfTerms P (t ∷ ts) = EachNameOfTerm P t × EachOfTerms P ts

  pub values_agree : (P : Name → Type 0) (u u' : Look) → ((y : Name) → P y → u y ≡ u' y) → (ts : List TermTree) (vs : List Value) → EachOfTerms P ts →
      AreValues sizes u ts vs → AreValues sizes u' ts vs
  values_agree P u u' a [] [] e h = tt
  values_agree P u u' a [] (v ∷ vs) e h = absurd h
  values_agree P u u' a (t ∷ ts) [] e h = absurd h
  values_agree P u u' a (t ∷ ts) (v ∷ vs) e h = ((agree_meets sizes u u' P a t [] (λ w. w ≡ v) e.0).0 h.0, values_agree P u u' a ts vs e.1 h.1)

  -- ---- closed trees

  pub closed_steady : (f : FormulaTree) → IsClosed 0 f → Steady sizes f
  closed_steady f c l env = closed_holds sizes l ⊥ f 0 env [] (λ j lt. absurd (omega (arith, lt))) c

  pub closed_items : (is : List Item) → GuardsClosed is → SteadyItems sizes is
  closed_items [] c = tt
  closed_items (Bind x kind ∷ is) c = closed_items is c
  closed_items (Guard g ∷ is) c = (closed_steady g c.0, closed_items is c.1)

  pub closed_writes : (ws : Assigned) → AreClosed ws → SteadyWrites sizes ws
  closed_writes [] c = tt
  closed_writes (w ∷ ws) c = ((λ l env v h. value_closed sizes l w.1 v c.0 h env), closed_writes ws c.1)

  -- ---- for all values of declared names

  pub for_all_at : (u : Look) (f : FormulaTree) → IsClosed 0 f → (ds : List Declared) → Differ (names ds) → Holds sizes u (for_all [] ds f) [] → (vs : List Value) → AreOfKinds sizes ds vs →
      Holds sizes (over (bind (names ds) vs) u) f []
  for_all_at u f c ds df h vs k = subst (λ l. Holds sizes l f []) (λ i y. args_agree sizes ds vs u y df k i) (for_all_gives sizes u f (closed_steady f c) ds [] h vs k)

  -- as many values as names
  abbrev pub AsMany : List Name → List Value → Type 0
  AsMany [] [] = Unit {0}
  AsMany [] (v ∷ vs) = ⊥
  AsMany (x ∷ xs) [] = ⊥
  AsMany (x ∷ xs) (v ∷ vs) = AsMany xs vs

  pub vars_values : (xs : List Name) (vs : List Value) (l s : Look) → AsMany xs vs → Differ xs → ((y : Name) → is_among y xs ≡ true → l y ≡ over (bind xs vs) s y) → AreValues sizes l (vars xs) vs
  vars_values [] [] l s m df h = tt
  vars_values [] (v ∷ vs) l s m df h = absurd m
  vars_values (x ∷ xs) [] l s m df h = absurd m
  vars_values (x ∷ xs) (v ∷ vs) l s m df h = (
    h x (ap (λ b. b || is_among x xs) (same_name_self x)) ∙ set_here (over (bind xs vs) s) x v,
    vars_values xs vs l s m df.1 (λ y e. h y (or_in y e) ∙ set_other (over (bind xs vs) s) x v y (other y e)),
  )
    where
      or_in : (y : Name) → is_among y xs ≡ true → (same_name y x || is_among y xs) ≡ true
      or_in y e = by (same_name y x)
        where
          by : (b : Bool) → (b || is_among y xs) ≡ true
          by true = refl
          by false = e

      other : (y : Name) → is_among y xs ≡ true → same_name y x ≡ false
      other y e = by (same_name y x) refl
        where
          by : (b : Bool) → same_name y x ≡ b → b ≡ false
          by true s = absurd (true≢false (sym e ∙ ap (λ z. is_among z xs) (same_name_tells y x s) ∙ df.0))
          by false s = refl

  pub typings_hold : (ds : List Declared) (vs : List Value) (l s : Look) → AreIn sizes ds vs → Differ (names ds) → ((y : Name) → is_among y (names ds) ≡ true → l y ≡ over (bind (names ds) vs) s y) →
      Holds sizes l (typings ds) []
  typings_hold [] vs l s i df h = tt
  typings_hold (d ∷ ds) [] l s i df h = absurd i
  typings_hold (d ∷ ds) (v ∷ vs) l s i df h =
      let here = h d.name (ap (λ b. b || is_among d.name (names ds)) (same_name_self d.name)) ∙ set_here (over (bind (names ds) vs) s) d.name v in (
        ((domain_typing sizes d.domain l d.name).0 (subst (In sizes d.domain) (sym here) i.0)).1,
        typings_hold ds vs l s i.1 df.1 (λ y e. h y (or_in y e) ∙ set_other (over (bind (names ds) vs) s) d.name v y (other y e)),
      )
    where
      or_in : (y : Name) → is_among y (names ds) ≡ true → (same_name y d.name || is_among y (names ds)) ≡ true
      or_in y e = by (same_name y d.name)
        where
          by : (b : Bool) → (b || is_among y (names ds)) ≡ true
          by true = refl
          by false = e

      other : (y : Name) → is_among y (names ds) ≡ true → same_name y d.name ≡ false
      other y e = by (same_name y d.name) refl
        where
          by : (b : Bool) → same_name y d.name ≡ b → b ≡ false
          by true t = absurd (true≢false (sym e ∙ ap (λ z. is_among z (names ds)) (same_name_tells y d.name t) ∙ df.0))
          by false t = refl

  -- and back, for values of the kinds
  pub typings_tell : (ds : List Declared) (vs : List Value) (l s : Look) → AreOfKinds sizes ds vs → Differ (names ds) → ((y : Name) → is_among y (names ds) ≡ true → l y ≡ over (bind (names ds) vs) s y) →
      Holds sizes l (typings ds) [] → AreIn sizes ds vs
  typings_tell [] [] l s k df h t = tt
  typings_tell [] (v ∷ vs) l s k df h t = absurd k
  typings_tell (d ∷ ds) [] l s k df h t = absurd k
  typings_tell (d ∷ ds) (v ∷ vs) l s k df h t =
      let here = h d.name (ap (λ b. b || is_among d.name (names ds)) (same_name_self d.name)) ∙ set_here (over (bind (names ds) vs) s) d.name v in (
        subst (In sizes d.domain) here ((domain_typing sizes d.domain l d.name).1 (subst (IsOf sizes (kind_of_domain d.domain)) (sym here) k.0, t.0)),
        typings_tell ds vs l s k.1 df.1 (λ y e. h y (or_in y e) ∙ set_other (over (bind (names ds) vs) s) d.name v y (other y e)) t.1,
      )
    where
      or_in : (y : Name) → is_among y (names ds) ≡ true → (same_name y d.name || is_among y (names ds)) ≡ true
      or_in y e = by (same_name y d.name)
        where
          by : (b : Bool) → (b || is_among y (names ds)) ≡ true
          by true = refl
          by false = e

      other : (y : Name) → is_among y (names ds) ≡ true → same_name y d.name ≡ false
      other y e = by (same_name y d.name) refl
        where
          by : (b : Bool) → same_name y d.name ≡ b → b ≡ false
          by true t = absurd (true≢false (sym e ∙ ap (λ z. is_among z (names ds)) (same_name_tells y d.name t) ∙ df.0))
          by false t = refl

  -- ---- declared names that take others' domains

  pub names_as : (xs : List Name) (ds : List Declared) → length xs ≡ length ds → names (declared_as xs ds) ≡ xs
  names_as [] ds e = refl
  names_as (x ∷ xs) [] e = absurd (omega (arith, e))
  names_as (x ∷ xs) (d ∷ ds) e = ap (λ ys. x ∷ ys) (names_as xs ds (omega (arith, e)))

  pub kinds_as : (xs : List Name) (ds : List Declared) (vs : List Value) → length xs ≡ length ds → AreOfKinds sizes ds vs → AreOfKinds sizes (declared_as xs ds) vs
  kinds_as [] [] vs e k = k
  kinds_as [] (d ∷ ds) vs e k = absurd (omega (arith, e))
  kinds_as (x ∷ xs) [] vs e k = absurd (omega (arith, e))
  kinds_as (x ∷ xs) (d ∷ ds) [] e k = absurd k
  kinds_as (x ∷ xs) (d ∷ ds) (v ∷ vs) e k = (k.0, kinds_as xs ds vs (omega (arith, e)) k.1)

  pub in_as : (xs : List Name) (ds : List Declared) (vs : List Value) → length xs ≡ length ds → AreIn sizes ds vs → AreIn sizes (declared_as xs ds) vs
  in_as [] [] vs e k = k
  in_as [] (d ∷ ds) vs e k = absurd (omega (arith, e))
  in_as (x ∷ xs) [] vs e k = absurd (omega (arith, e))
  in_as (x ∷ xs) (d ∷ ds) [] e k = absurd k
  in_as (x ∷ xs) (d ∷ ds) (v ∷ vs) e k = (k.0, in_as xs ds vs (omega (arith, e)) k.1)

  pub in_kinds : (ds : List Declared) (vs : List Value) → AreIn sizes ds vs → AreOfKinds sizes ds vs
  in_kinds [] [] i = tt
  in_kinds [] (v ∷ vs) i = absurd i
  in_kinds (d ∷ ds) [] i = absurd i
  in_kinds (d ∷ ds) (v ∷ vs) i = (
    subst (IsOf sizes (kind_of_domain d.domain)) (set_here empty d.name v)
        ((domain_typing sizes d.domain (set_at empty d.name v) d.name).0 (subst (In sizes d.domain) (sym (set_here empty d.name v)) i.0)).0,
    in_kinds ds vs i.1,
  )

  pub many_as : (xs : List Name) (ds : List Declared) (vs : List Value) → length xs ≡ length ds → AreOfKinds sizes ds vs → AsMany xs vs
  many_as [] [] [] e k = tt
  many_as [] [] (v ∷ vs) e k = absurd k
  many_as [] (d ∷ ds) vs e k = absurd (omega (arith, e))
  many_as (x ∷ xs) [] vs e k = absurd (omega (arith, e))
  many_as (x ∷ xs) (d ∷ ds) [] e k = absurd k
  many_as (x ∷ xs) (d ∷ ds) (v ∷ vs) e k = many_as xs ds vs (omega (arith, e)) k.1
