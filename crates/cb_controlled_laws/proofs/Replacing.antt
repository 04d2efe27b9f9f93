-- Formulas with terms for their names fit where the terms are of the names' kinds; and formulas for all values of declared names.
use Rattle.std.proofs.Common.{◌≡◌, ℕ, zero, suc, ◌<◌, Bool, true, false, ◌||◌, List, [], ◌∷◌, ◌++◌, length, Some, refl, sym, ap, ◌∙◌, subst, if◌then◌else◌, arith}
use Rattle.std.specs.Prelude.{nat_lt, slice_index_or}
use Rattle.std.proofs.lemmas.Bool.{and_from, lt-ltb, eqb-true, eq-eqb}
use Rattle.std.proofs.lemmas.Option.{same_Some}
use Rattle.cb_term.specs.declared.name.Name.{Name}
use Rattle.cb_term.specs.declared.kind.Kind.{Kind}
use Rattle.cb_term.specs.declared.kind.Kind.TheVariants as kind
use Rattle.cb_term.specs.declared.kind.Base.{Base}
use Rattle.cb_term.specs.declared.kind.Base.TheVariants as base
use Rattle.cb_term.specs.Kinds.{same_base}
use Rattle.cb_term.specs.declared.kind.Domain.{Domain}
use Rattle.cb_term.specs.declared.kind.Domain.TheVariants as domain
use Rattle.cb_term.specs.Names.{same_name}
use Rattle.cb_term.specs.Tree as tree
use Rattle.cb_term.specs.Tree.{TermTree, FormulaTree}
use Rattle.cb_term.specs.Change.{bound_stays}
use Rattle.cb_term.specs.Values.{size_of_set}
use Rattle.cb_term.proofs.ValueLemmas.{same_name_tells, same_name_self}
use Rattle.cb_seq.specs.Kinds.{kind_in, kind_of, fits}
use Rattle.cb_seq.proofs.MoreNames.{Extends, kind_more}
use Rattle.cb_spec.specs.declared.system.Declared.{Declared}
use Rattle.cb_spec.specs.Domains.{kind_of_domain, typing}
use Rattle.cb_spec.specs.Bound.{names, is_among}
use Rattle.cb_spec.specs.Forms.{Form, Number, Truth, Element, Numbers, TruthSet, Elements, Empty, is_of_kind}
use Rattle.cb_spec.specs.TypedTerms.{Scope, IsDomain, TypedAs}
use Rattle.cb_spec.specs.TypedProcesses.{kinds_of, TypedArgs}
use Rattle.cb_obligations.specs.Branches.{Assigned}
use Rattle.cb_obligations.specs.Laws.{NamesUpTo}
use Rattle.cb_obligations.specs.Owed.{with_kinds, for_all}
use Rattle.cb_obligations.specs.Sufficing.{Differ}
use Rattle.cb_obligations.specs.Written.{IsWritten}
use Rattle.cb_obligations.proofs.Calls.{neither}
use Rattle.cb_typed.specs.Erasure.{kind_of_form, kinds_in}
use Rattle.cb_typed.proofs.Erasing.{some_and}
use Rattle.cb_typed.proofs.Naming.{as_kind}
use Rattle.cb_typed.proofs.Fitting.{kind_of_declared}
use Rattle.cb_typed.proofs.Mapping.{Below, IsBelow, below_self, below_then, mapped_kind, mapped_fits}
use Rattle.cb_typed.proofs.Kinding.{Names, just_names, just_kinds, Wider, closed_fits}
use Rattle.cb_conditions.specs.Reading.{itself, with_terms, meaning_at, read_term, replaced, terms_at}
use Rattle.cb_conditions.specs.Conditions.{typings}

pub extends_more : (ks ks' : List Kind) (c : Kind) → Extends ks ks' → Extends (c ∷ ks) (c ∷ ks')
extends_more ks ks' c h zero k e = e
extends_more ks ks' c h (suc j) k e = h j k e

same_self : (b : Base) → same_base b b ≡ true
same_self base.Integer = refl
same_self base.Truth = refl
same_self (base.Elem k) = eq-eqb k k refl

form_below : (f : Form) (k : Kind) → is_of_kind f k ≡ true → Below (kind_of_form f) k
form_below (Number lo hi) kind.Integer e = refl
form_below Truth kind.Truth e = refl
form_below (Element j) (kind.Elem k) e = ap kind.Elem (eqb-true j k e)
form_below (Numbers lo hi) (kind.SetOf base.Integer) e = refl
form_below TruthSet (kind.SetOf base.Truth) e = refl
form_below (Elements j) (kind.SetOf (base.Elem k)) e = ap (λ n. kind.SetOf (base.Elem n)) (eqb-true j k e)
form_below Empty (kind.SetOf b) e = tt
form_below Empty kind.EmptySet e = refl
form_below f k e = cc

abbrev pub AllWritten : List Declared → Type 0
AllWritten [] = Unit {0}
AllWritten (d ∷ ds) = IsWritten d.name × AllWritten ds

module _ (sizes : List ℕ) where
  -- ---- terms of the wanted kinds

  arg_below : (scope : Scope) (taken : List Name) (ns : Names) → Wider (kinds_in scope) ns → (k : Kind) (t : TermTree) → TypedAs sizes scope taken k t → IsBelow (kind_of sizes ns [] t) k
  arg_below scope taken ns wide k t w =
      let f = as_kind sizes scope taken k t w in
      let q = some_and _ _ w.1 in
      let same : q.0 ≡ f.0 = same_Some q.0 f.0 (sym q.1 ∙ f.2) in
      (kind_of_form f.0, kind_more sizes (kinds_in scope) ns wide t [] [] (kind_of_form f.0) (λ j c h. h) f.1, form_below f.0 k (subst (λ z. is_of_kind z k ≡ true) same q.2))

  abbrev pub AllBelow : Names → List Declared → List TermTree → Type 0
  AllBelow ns [] [] = Unit {0}
  AllBelow ns [] (t ∷ ts) = ⊥
  AllBelow ns (d ∷ ds) [] = ⊥
  AllBelow ns (d ∷ ds) (t ∷ ts) = IsBelow (kind_of sizes ns [] t) (kind_of_domain d.domain) × AllBelow ns ds ts

  pub args_below : (scope : Scope) (taken : List Name) (ns : Names) → Wider (kinds_in scope) ns → (ds : List Declared) (ts : List TermTree) → TypedArgs sizes scope taken (kinds_of ds) ts → AllBelow ns ds ts
  args_below scope taken ns wide [] [] w = tt
  args_below scope taken ns wide [] (t ∷ ts) w = absurd w
  args_below scope taken ns wide (d ∷ ds) [] w = absurd w
  args_below scope taken ns wide (d ∷ ds) (t ∷ ts) w = (arg_below scope taken ns wide (kind_of_domain d.domain) t w.0, args_below scope taken ns wide ds ts w.1)

  -- ---- names replaced

  -- what each name is replaced by is of its kind
  abbrev pub Reads : Names → Names → Assigned → Type 0
  Reads old new ws = (y : Name) (c : Kind) → kind_in old y ≡ Some c → IsBelow (kind_of sizes new [] (with_terms ws itself y)) c

  under : (new : Names) (t : TermTree) (c : Kind) (ks : List Kind) → IsBelow (kind_of sizes new [] t) c → IsBelow (kind_of sizes new ks t) c
  under new t c ks h = (h.0, kind_more sizes new new (λ y k e. e) t [] ks h.0 (λ j k e. cc) h.1, h.2)

  pub replaced_fits : (old new : Names) (ws : Assigned) → Reads old new ws → (f : FormulaTree) → fits sizes old [] f ≡ true → fits sizes new [] (replaced ws f) ≡ true
  replaced_fits old new ws r f e = mapped_fits sizes new old (meaning_at (with_terms ws itself)) bound_stays (λ d ks ks'. Extends ks' ks) (λ d ks ks' c x. extends_more ks' ks c x)
      (λ d y c ks ks' x h. under new (with_terms ws itself y) c ks (r y c h)) (λ d j c ks ks' x h. (c, x j c h, below_self c)) f 0 [] [] (λ j c h. h) e

  pub read_below : (old new : Names) (ws : Assigned) → Reads old new ws → (t : TermTree) (c : Kind) → IsBelow (kind_of sizes old [] t) c → IsBelow (kind_of sizes new [] (read_term (with_terms ws itself) t)) c
  read_below old new ws r t c h = below_then _ h.0 c
      (mapped_kind sizes new old (meaning_at (with_terms ws itself)) bound_stays (λ d ks ks'. Extends ks' ks) (λ d ks ks' c x. extends_more ks' ks c x)
      (λ d y c ks ks' x h. under new (with_terms ws itself y) c ks (r y c h)) (λ d j c ks ks' x h. (c, x j c h, below_self c)) t 0 [] [] h.0 (λ j c h. h) h.1) h.2

  pub reads_args : (ds : List Declared) (ts : List TermTree) (new rest : Names) → AllBelow new ds ts → Wider rest new → Reads (with_kinds ds ++ rest) new (terms_at (names ds) ts)
  reads_args [] [] new rest a w y c e = (c, w y c e, below_self c)
  reads_args [] (t ∷ ts) new rest a w y c e = absurd a
  reads_args (d ∷ ds) [] new rest a w y c e = absurd a
  reads_args (d ∷ ds) (t ∷ ts) new rest a w y c e = by (same_name y d.name) e (reads_args ds ts new rest a.1 w y c)
    where
      by : (b : Bool) → (if b then Some (kind_of_domain d.domain) else kind_in (with_kinds ds ++ rest) y) ≡ Some c →
          (kind_in (with_kinds ds ++ rest) y ≡ Some c → IsBelow (kind_of sizes new [] (with_terms (terms_at (names ds) ts) itself y)) c) →
          IsBelow (kind_of sizes new [] (if b then t else with_terms (terms_at (names ds) ts) itself y)) c
      by true e r = subst (λ k. IsBelow (kind_of sizes new [] t) k) (same_Some _ _ e) a.0
      by false e r = r e

  -- ---- typing conjuncts

  within : (xs : List ℕ) (k : ℕ) → 0 < slice_index_or xs k 0 → k < length xs
  within [] k l = absurd (omega (arith, l))
  within (x ∷ xs) zero l = omega arith
  within (x ∷ xs) (suc k) l = let r = within xs k l in omega (arith, r)

  set_there : (set : ℕ) → 0 < size_of_set sizes set → nat_lt set (length sizes) ≡ true
  set_there set l = lt-ltb set (length sizes) (within sizes set l)

  typing_fits : (ns : Names) (x : Name) (d : Domain) → IsDomain sizes d → kind_in ns x ≡ Some (kind_of_domain d) → fits sizes ns [] (typing (tree.Var x) d) ≡ true
  typing_fits ns x (domain.Range lo hi) i e = rw (e) refl
  typing_fits ns x domain.Truth i e = rw (e) refl
  typing_fits ns x (domain.Elems set) i e = rw (e, set_there set i.0) rw (same_self (base.Elem set)) refl
  typing_fits ns x (domain.Subsets lo hi) i e = rw (e) refl
  typing_fits ns x (domain.ElemSubsets set) i e = rw (e, set_there set i.0) rw (same_self (base.Elem set)) refl

  abbrev pub AreDomains : List Declared → Type 0
  AreDomains [] = Unit {0}
  AreDomains (d ∷ ds) = IsDomain sizes d.domain × AreDomains ds

  pub typings_fit : (ns : Names) (ds : List Declared) → AreDomains ds → Differ (names ds) → Wider (with_kinds ds) ns → fits sizes ns [] (typings ds) ≡ true
  typings_fit ns [] i n w = refl
  typings_fit ns (d ∷ ds) i n w = and_from _ _
      (typing_fits ns d.name d.domain i.0 (w d.name (kind_of_domain d.domain) (ap (λ b. if b then Some (kind_of_domain d.domain) else kind_in (with_kinds ds) d.name) (same_name_self d.name))))
      (typings_fit ns ds i.1 n.1 (λ x k e. w x k (ap (λ b. if b then Some (kind_of_domain d.domain) else kind_in (with_kinds ds) x) (apart x (kind_of_declared sizes ds x k e)) ∙ e)))
    where
      apart : (x : Name) → is_among x (names ds) ≡ true → same_name x d.name ≡ false
      apart x e = by (same_name x d.name) refl
        where
          by : (b : Bool) → same_name x d.name ≡ b → b ≡ false
          by true s = cc (sym e ∙ ap (λ z. is_among z (names ds)) (same_name_tells x d.name s) ∙ n.0)
          by false s = refl

  -- ---- for all values of declared names

  abbrev pushed : List Declared → Names → Names
  pushed [] bs = bs
  pushed (d ∷ ds) bs = pushed ds ((d.name, kind_of_domain d.domain) ∷ bs)

  all_pushed : (ns : Names) (ds : List Declared) (bs : Names) (f : FormulaTree) → fits sizes (pushed ds bs ++ ns) [] f ≡ true → fits sizes ns (just_kinds bs) (for_all (just_names bs) ds f) ≡ true
  all_pushed ns [] bs f e = closed_fits sizes ns bs f e
  all_pushed ns (d ∷ ds) bs f e = all_pushed ns ds ((d.name, kind_of_domain d.domain) ∷ bs) f e

  not_pushed : (ns : Names) (ds : List Declared) (bs : Names) (y : Name) → is_among y (names ds) ≡ false → kind_in (pushed ds bs ++ ns) y ≡ kind_in (bs ++ ns) y
  not_pushed ns [] bs y e = refl
  not_pushed ns (d ∷ ds) bs y e =
      let n = neither (same_name y d.name) (is_among y (names ds)) e in
      not_pushed ns ds ((d.name, kind_of_domain d.domain) ∷ bs) y n.1 ∙ ap (λ b. if b then Some (kind_of_domain d.domain) else kind_in (bs ++ ns) y) n.0

  pushed_wider : (ns : Names) (ds : List Declared) (bs : Names) → Differ (names ds) → (y : Name) (c : Kind) → kind_in (with_kinds ds ++ ns) y ≡ Some c →
      (kind_in ns y ≡ Some c → is_among y (names ds) ≡ false → kind_in (bs ++ ns) y ≡ Some c) → kind_in (pushed ds bs ++ ns) y ≡ Some c
  pushed_wider ns [] bs n y c e q = q e refl
  pushed_wider ns (d ∷ ds) bs n y c e q = by (same_name y d.name) refl e q (pushed_wider ns ds ((d.name, kind_of_domain d.domain) ∷ bs) n.1 y c)
    where
      k : Kind
      k = kind_of_domain d.domain

      by : (b : Bool) → same_name y d.name ≡ b → (if b then Some k else kind_in (with_kinds ds ++ ns) y) ≡ Some c →
          (kind_in ns y ≡ Some c → (b || is_among y (names ds)) ≡ false → kind_in (bs ++ ns) y ≡ Some c) →
          (kind_in (with_kinds ds ++ ns) y ≡ Some c → (kind_in ns y ≡ Some c → is_among y (names ds) ≡ false → kind_in (((d.name, k) ∷ bs) ++ ns) y ≡ Some c) →
          kind_in (pushed ds ((d.name, k) ∷ bs) ++ ns) y ≡ Some c) →
          kind_in (pushed ds ((d.name, k) ∷ bs) ++ ns) y ≡ Some c
      by true s e q r =
          not_pushed ns ds ((d.name, k) ∷ bs) y (ap (λ z. is_among z (names ds)) (same_name_tells y d.name s) ∙ n.0)
          ∙ ap (λ b. if b then Some k else kind_in (bs ++ ns) y) s ∙ e
      by false s e q r = r e (λ h a. ap (λ b. if b then Some k else kind_in (bs ++ ns) y) s ∙ q h a)

  pushed_up : (ns : Names) (ds : List Declared) (bs : Names) → AllWritten ds → NamesUpTo 0 (bs ++ ns) → NamesUpTo 0 (pushed ds bs ++ ns)
  pushed_up ns [] bs w u = u
  pushed_up ns (d ∷ ds) bs w u = pushed_up ns ds ((d.name, kind_of_domain d.domain) ∷ bs) w.1 (omega (arith, w.0), u)

  -- it is enough that the formula fits wherever these names have their kinds
  pub for_all_fits : (ns : Names) (ds : List Declared) (f : FormulaTree) → Differ (names ds) → AllWritten ds → NamesUpTo 0 ns →
      ((ms : Names) → Wider (with_kinds ds ++ ns) ms → NamesUpTo 0 ms → fits sizes ms [] f ≡ true) → fits sizes ns [] (for_all [] ds f) ≡ true
  for_all_fits ns ds f n w u h = all_pushed ns ds [] f (h (pushed ds [] ++ ns) (λ y c e. pushed_wider ns ds [] n y c e (λ q a. q)) (pushed_up ns ds [] w u))
