-- What is typed is worked out, and its values are of its form.
use Rattle.std.proofs.Common.{◌≡◌, inl, inr, ◌∙◌, ℕ, zero, suc, ◌+◌, ◌<◌, ◌≤◌, ℤ, pos, ◌≤ℤ◌, Bool, true, false, not, ◌&&◌, ◌||◌, List, [], ◌∷◌, map, length, Option, Some, None, Result, Ok, Err, IfOk, refl, sym, ap, subst, arith, if◌then◌else◌}
use Rattle.std.specs.Prelude.{nat_lt, nat_le, slice_get, IsSomeAnd}
use Rattle.std.specs.Int.{int_min, int_max}
use Rattle.std.proofs.lemmas.Bool.{eq-eqb}
use Rattle.std.proofs.lemmas.Int.{by_lt_z, ints, clamps}
use Rattle.cb_term.specs.declared.kind.Base.{Base}
use Rattle.cb_term.specs.declared.kind.Base.TheVariants as base
use Rattle.cb_term.specs.declared.kind.Kind.{Kind}
use Rattle.cb_term.specs.declared.kind.Kind.TheVariants as kind
use Rattle.cb_term.specs.declared.kind.Domain.{Domain}
use Rattle.cb_term.specs.declared.kind.Domain.TheVariants as domain
use Rattle.cb_term.specs.declared.name.Name.{Name}
use Rattle.cb_term.specs.declared.sign.TermSign.{TermSign}
use Rattle.cb_term.specs.declared.value.Value.{Value}
use Rattle.cb_term.specs.declared.value.Value.TheVariants as value
use Rattle.cb_term.specs.Kinds.{same_base, same_kind}
use Rattle.cb_term.specs.Sets.{insert, upwards}
use Rattle.cb_term.specs.Tree.{TermTree, Var, Bound, Num, Truth, Elem, Bin, Neg, Card, Listed, Elems, Truths, Test, TermTrees, End, More, FormulaTree, True, False, Rel, Not, And, Or, Implies, Iff, Every, Exist}
use Rattle.cb_term.specs.Values.{Look, item, bin, neg, card, rel, same_truth, size_of_set}
use Rattle.cb_spec.specs.Domains.{kind_of_domain, AllWithin, In, typing}
use Rattle.cb_spec.specs.FormValues.{IsOfForm}
use Rattle.cb_spec.specs.Forms as form
use Rattle.cb_spec.specs.Forms.{Form, form_of_domain, single, joined_form, with_both, bin_form, neg_form, card_form, IsSmall}
use Rattle.cb_spec.specs.Runs.{HasConjunct}
use Rattle.cb_spec.specs.Sound.{Agrees}
use Rattle.cb_spec.specs.TypedTerms.{Scope, then_form, literal, IsChoosable, IsDomain, premise_of, form_of, form_of_listed, is_membership, is_free_range, Unless, TypedTerm, TypedTerms, TypedFormula}
use Rattle.cb_eval.specs.ClosedTruth.{kept_set, with_one, with_two}
use Rattle.cb_eval.specs.Evaluation.{kept, kept_unless, given, where_named, until, walk, value_in, items_in, truth_in}
use Rattle.cb_eval.specs.Laws.{IsSmallValue}
use Rattle.cb_eval.specs.TypedIn.{AreSmallSets, TypedIn, TypedTermIn}
use Rattle.cb_term.specs.Holds.{IsValue}
use Rattle.cb_term.proofs.LawLemmas.{values_are_unique}
use Rattle.cb_eval.proofs.SoundLemmas.{value_sound}
use Rattle.cb_eval.specs.Walks.{span, count_of, value_number, is_walkable, meet, meet_found, of_kind, domain_in, if_walkable, walked_domain}
use Rattle.cb_eval.proofs.FormLemmas.{bin_of, neg_of, card_of, elements_of, listed_of, joined_small, form_kept, set_kept, set_length, form_given}
use Rattle.cb_eval.proofs.QuantifierLemmas.{found_domain}
use Rattle.cb_eval.proofs.TellLemmas.{some_is, kept_tells}
use Rattle.cb_eval.proofs.WalkLemmas.{span_end, span_none, walk_in}

-- ---- what the answers of forms tell

some_and : {A : Type 0} (P : A → Type 0) (o : Option A) (a : A) → o ≡ Some a → IsSomeAnd o P → P a
some_and P o a e h = (subst (λ p. IsSomeAnd p P) e h)

some_form : {A : Type 0} (P : A → Type 0) (o : Option A) (R : Type 0) → IsSomeAnd o P → ((a : A) → o ≡ Some a → P a → R) → R
some_form P None R h go = absurd h
some_form P (Some a) R h go = go a refl h

both_forms : (o p : Option Form) (g : Form → Form → Option Form) (f : Form) (R : Type 0) → with_both o p g ≡ Some f → ((a b : Form) → o ≡ Some a → p ≡ Some b → g a b ≡ Some f → R) → R
both_forms None p g f R e go = cc
both_forms (Some a) None g f R e go = cc
both_forms (Some a) (Some b) g f R e go = go a b refl refl e

one_form : (o : Option Form) (g : Form → Option Form) (f : Form) (R : Type 0) → then_form o g ≡ Some f → ((a : Form) → o ≡ Some a → g a ≡ Some f → R) → R
one_form None g f R e go = cc
one_form (Some a) g f R e go = go a refl e

-- ---- domains

meet_left : (sizes : List ℕ) (a b : Domain) (v : Value) → In sizes (meet a b) v → In sizes a v
meet_left sizes (domain.Range lo hi) (domain.Range lo' hi') (value.Int x) i = (omega (arith, ints, clamps, i.0), omega (arith, ints, clamps, i.1))
meet_left sizes (domain.Subsets lo hi) (domain.Subsets lo' hi') (value.Set xs) i = (i.0, all lo hi lo' hi' xs i.1)
  where
    all : (lo hi lo' hi' : ℤ) (xs : List ℤ) → AllWithin (int_max lo lo') (int_min hi hi') xs → AllWithin lo hi xs
    all lo hi lo' hi' [] w = tt
    all lo hi lo' hi' (x ∷ xs) w = ((omega (arith, ints, clamps, w.0.0), omega (arith, ints, clamps, w.0.1)), all lo hi lo' hi' xs w.1)
meet_left sizes (domain.Range lo hi) (domain.Range lo' hi') v i = absurd i
meet_left sizes (domain.Subsets lo hi) (domain.Subsets lo' hi') v i = absurd i
meet_left sizes a b v i = i

meet_right : (sizes : List ℕ) (a b : Domain) (v : Value) → kind_of_domain a ≡ kind_of_domain b → In sizes (meet a b) v → In sizes b v
meet_right sizes (domain.Range lo hi) (domain.Range lo' hi') (value.Int x) e i = (omega (arith, ints, clamps, i.0), omega (arith, ints, clamps, i.1))
meet_right sizes (domain.Subsets lo hi) (domain.Subsets lo' hi') (value.Set xs) e i = (i.0, all lo hi lo' hi' xs i.1)
  where
    all : (lo hi lo' hi' : ℤ) (xs : List ℤ) → AllWithin (int_max lo lo') (int_min hi hi') xs → AllWithin lo' hi' xs
    all lo hi lo' hi' [] w = tt
    all lo hi lo' hi' (x ∷ xs) w = ((omega (arith, ints, clamps, w.0.0), omega (arith, ints, clamps, w.0.1)), all lo hi lo' hi' xs w.1)
meet_right sizes (domain.Range lo hi) (domain.Range lo' hi') v e i = absurd i
meet_right sizes (domain.Subsets lo hi) (domain.Subsets lo' hi') v e i = absurd i
meet_right sizes domain.Truth domain.Truth v e i = i
meet_right sizes (domain.Elems j) (domain.Elems k) v e i = let same : j ≡ k = cc (e) in subst (λ n. In sizes (domain.Elems n) v) same i
meet_right sizes (domain.ElemSubsets j) (domain.ElemSubsets k) v e i = let same : j ≡ k = cc (e) in subst (λ n. In sizes (domain.ElemSubsets n) v) same i
meet_right sizes a b v e i = cc

le_nat : (m n : ℕ) → m ≤ n → nat_le m n ≡ true
le_nat m n l = grind arith

nat_of : (m n : ℕ) → nat_le m n ≡ true → m ≤ n
nat_of m n e = grind arith

-- a part of an interval is no longer
span_part : (lo hi lo' hi' : ℤ) → lo ≤ℤ lo' → hi' ≤ℤ hi → span lo' hi' ≤ span lo hi
span_part lo hi lo' hi' l m =
    by_lt_z hi' lo' (λ n. omega (arith, span_none lo' hi' n)) (λ g. omega (arith, ints, l, m, g, span_end lo' hi' g, span_end lo hi (omega (arith, ints, l, m, g))))

walk_left : (sizes : List ℕ) (a b : Domain) → is_walkable sizes a ≡ true → is_walkable sizes (meet a b) ≡ true
walk_left sizes (domain.Range lo hi) (domain.Range lo' hi') e =
    le_nat _ _ (omega (arith, nat_of _ _ e, span_part lo hi (int_max lo lo') (int_min hi hi') (omega (arith, ints, clamps)) (omega (arith, ints, clamps))))
walk_left sizes (domain.Subsets lo hi) (domain.Subsets lo' hi') e =
    le_nat _ _ (omega (arith, nat_of _ _ e, span_part lo hi (int_max lo lo') (int_min hi hi') (omega (arith, ints, clamps)) (omega (arith, ints, clamps))))
walk_left sizes a b e = e

walk_right : (sizes : List ℕ) (a b : Domain) → kind_of_domain a ≡ kind_of_domain b → is_walkable sizes b ≡ true → is_walkable sizes (meet a b) ≡ true
walk_right sizes (domain.Range lo hi) (domain.Range lo' hi') k e =
    le_nat _ _ (omega (arith, nat_of _ _ e, span_part lo' hi' (int_max lo lo') (int_min hi hi') (omega (arith, ints, clamps)) (omega (arith, ints, clamps))))
walk_right sizes (domain.Subsets lo hi) (domain.Subsets lo' hi') k e =
    le_nat _ _ (omega (arith, nat_of _ _ e, span_part lo' hi' (int_max lo lo') (int_min hi hi') (omega (arith, ints, clamps)) (omega (arith, ints, clamps))))
walk_right sizes domain.Truth domain.Truth k e = refl
walk_right sizes (domain.Elems i) (domain.Elems j) k e = let same : j ≡ i = cc (k) in subst (λ n. is_walkable sizes (domain.Elems n) ≡ true) same e
walk_right sizes (domain.ElemSubsets i) (domain.ElemSubsets j) k e = let same : j ≡ i = cc (k) in subst (λ n. is_walkable sizes (domain.ElemSubsets n) ≡ true) same e
walk_right sizes a b k e = cc

same_base_self : (b : Base) → same_base b b ≡ true
same_base_self base.Integer = refl
same_base_self base.Truth = refl
same_base_self (base.Elem k) = eq-eqb k k refl

same_kind_self : (k : Kind) → same_kind k k ≡ true
same_kind_self kind.Integer = refl
same_kind_self kind.Truth = refl
same_kind_self (kind.Elem k) = eq-eqb k k refl
same_kind_self (kind.SetOf b) = same_base_self b
same_kind_self kind.EmptySet = refl

of_its_own_kind : (kind : Kind) (d : Domain) → kind_of_domain d ≡ kind → of_kind kind d ≡ Some d
of_its_own_kind kind d e = ap (λ b. if b then Some d else None) (subst (λ k. same_kind (kind_of_domain d) k ≡ true) e (same_kind_self (kind_of_domain d)))

conjunct_gives : (kind : Kind) (d : Domain) → kind_of_domain d ≡ kind → domain_in kind (typing (Bound 0) d) ≡ Some d
conjunct_gives kind (domain.Range lo hi) e = of_its_own_kind kind (domain.Range lo hi) e
conjunct_gives kind domain.Truth e = of_its_own_kind kind domain.Truth e
conjunct_gives kind (domain.Elems set) e = of_its_own_kind kind (domain.Elems set) e
conjunct_gives kind (domain.Subsets lo hi) e = of_its_own_kind kind (domain.Subsets lo hi) e
conjunct_gives kind (domain.ElemSubsets set) e = of_its_own_kind kind (domain.ElemSubsets set) e

module _ (sizes : List ℕ) where
  -- the domain that is found is part of one that a conjunct gives
  record Covers (kind : Kind) (d : Domain) (f : FormulaTree) : Type 0 where
    pub found : Domain
    pub is : domain_in kind f ≡ Some found
    pub within : (v : Value) → In sizes found v → In sizes d v
    pub walks : is_walkable sizes d ≡ true → is_walkable sizes found ≡ true

  covers : (kind : Kind) (d : Domain) (f : FormulaTree) → HasConjunct (typing (Bound 0) d) f → kind_of_domain d ≡ kind → Covers kind d f
  covers kind d (And f g) (inl h) e = by (covers kind d f h e) (domain_in kind g) refl
    where
      by : Covers kind d f → (o : Option Domain) → domain_in kind g ≡ o → Covers kind d (And f g)
      by c None at = record { found = c.found; is = (λ i. meet_found (c.is i) (at i)); within = c.within; walks = c.walks }
      by c (Some b) at = record {
        found = meet c.found b;
        is = (λ i. meet_found (c.is i) (at i));
        within = λ v i. c.within v (meet_left sizes c.found b v i);
        walks = λ w. walk_left sizes c.found b (c.walks w);
      }
  covers kind d (And f g) (inr h) e = by (covers kind d g h e) (domain_in kind f) refl
    where
      by : Covers kind d g → (o : Option Domain) → domain_in kind f ≡ o → Covers kind d (And f g)
      by c None at = record { found = c.found; is = (λ i. meet_found (at i) (c.is i)); within = c.within; walks = c.walks }
      by c (Some b) at =
          let same : kind_of_domain b ≡ kind_of_domain c.found = (found_domain sizes kind f b at).kind_is ∙ sym (found_domain sizes kind g c.found c.is).kind_is in
          record {
            found = meet b c.found;
            is = (λ i. meet_found (at i) (c.is i));
            within = λ v i. c.within v (meet_right sizes b c.found v same i);
            walks = λ w. walk_right sizes b c.found same (c.walks w);
          }
  covers kind d f h e = record { found = d; is = ap (domain_in kind) h ∙ conjunct_gives kind d e; within = λ v i. i; walks = λ w. w }

  module _ (few : AreSmallSets sizes) where
    pub choosable_walks : (d : Domain) → IsDomain sizes d → IsChoosable sizes d → is_walkable sizes d ≡ true
    choosable_walks (domain.Range lo hi) i c = le_nat _ _ (omega (arith, ints, c, span_end lo hi i.0))
    choosable_walks domain.Truth i c = refl
    choosable_walks (domain.Elems set) i c = le_nat _ _ (omega (arith, few set))
    choosable_walks (domain.Subsets lo hi) i c = le_nat _ _ (omega (arith, ints, c, span_end lo hi i.0))
    choosable_walks (domain.ElemSubsets set) i c = le_nat _ _ c

    of_domain : (d : Domain) (v : Value) → In sizes d v → IsOfForm sizes (form_of_domain d) v
    of_domain (domain.Range lo hi) (value.Int x) i = i
    of_domain domain.Truth (value.Truth b) i = i
    of_domain (domain.Elems set) (value.Elem k) i = i
    of_domain (domain.Subsets lo hi) (value.Set xs) i = i
    of_domain (domain.ElemSubsets set) (value.Set xs) i = i
    of_domain d v i = absurd i

    until_some : (go_on : Bool) (i n : ℕ) (g : ℕ → Option Bool) → ((j : ℕ) → i ≤ j → j < i + n → (b : Bool) × (g j ≡ Some b)) → (b : Bool) × (until go_on i n g ≡ Some b)
    until_some go_on i zero g h = (go_on, refl)
    until_some go_on i (suc n) g h =
        let first = h i (omega arith) (omega arith) in
        let rest = until_some go_on (i + 1) n g (λ j l m. h j (omega (arith, l)) (omega (arith, m))) in
        let start : until go_on i (suc n) g ≡ (if same_truth first.0 go_on then until go_on (i + 1) n g else Some first.0) = ap (λ o. with_one o (λ b. if same_truth b go_on then until go_on (i + 1) n g else Some b)) first.1 in
        by (same_truth first.0 go_on) first.0 rest start
      where
        by : (c b : Bool) → (d : Bool) × (until go_on (i + 1) n g ≡ Some d) → until go_on i (suc n) g ≡ (if c then until go_on (i + 1) n g else Some b) → (d : Bool) × (until go_on i (suc n) g ≡ Some d)
        by true b rest e = (rest.0, e ∙ rest.1)
        by false b rest e = (b, e)

    module _ (scope : Scope) (taken : List Name) (look : Look) (agrees : Agrees sizes scope look) where
      abbrev pub AgreesInside : Scope → List Value → Type 0
      AgreesInside [] [] = Unit {0}
      AgreesInside (p ∷ inner) (v ∷ env) = IsOfForm sizes p.1 v × AgreesInside inner env
      AgreesInside inner env = ⊥

      inside_told : (inner : Scope) (env : List Value) (j : ℕ) (f : Form) → AgreesInside inner env → slice_get (map (λ (p : Name × Form). p.1) inner) j ≡ Some f →
          (v : Value) × ((slice_get env j ≡ Some v) × IsOfForm sizes f v)
      inside_told [] [] j f a e = cc
      inside_told [] (v ∷ env) j f a e = absurd a
      inside_told (p ∷ inner) [] j f a e = absurd a
      inside_told (p ∷ inner) (v ∷ env) zero f a e = (v, (refl, subst (λ g. IsOfForm sizes g v) (some_is p.1 f e) a.0))
      inside_told (p ∷ inner) (v ∷ env) (suc j) f a e = inside_told inner env j f a.1 e

      pub record Told (r : Bool) (env : List Value) (t : TermTree) (f : Form) : Type 0 where
        pub value_is : Value
        pub worked : value_in sizes true look r env t ≡ Some value_is
        pub of_form : IsOfForm sizes f value_is

      pub record ToldItems (env : List Value) (ts : TermTrees) (f : Form) : Type 0 where
        pub items_are : List ℤ
        pub worked : items_in sizes true look env ts ≡ Some items_are
        pub of_form : IsOfForm sizes f (value.Set items_are)

      kept_free : (r : Bool) (s : TermSign) (f : Form) (v : Value) → Unless (is_free_range r s) (IsSmall f) → IsOfForm sizes f v → kept_unless (is_free_range r s) true v ≡ Some v
      kept_free r s f v small o = by (is_free_range r s) small
        where
          by : (b : Bool) → Unless b (IsSmall f) → kept_unless b true v ≡ Some v
          by true h = refl
          by false h = form_kept sizes few f v h o

      unless_small : (b : Bool) (o : Option Form) (f : Form) → o ≡ Some f → Unless b (IsSomeAnd o IsSmall) → Unless b (IsSmall f)
      unless_small true o f e h = tt
      unless_small false o f e h = some_and IsSmall o f e h

      -- a literal's value is its number
      literal_value : (inner : Scope) (env : List Value) (t : TermTree) (d : ℤ) (v : Value) → literal t ≡ Some d → value_in sizes true look false env t ≡ Some v → v ≡ value.Int d
      literal_value inner env (Num n) d v e w = sym (kept_tells true (value.Int n) v w) ∙ ap value.Int (some_is n d e)
      literal_value inner env t d v e w = cc

      -- the form of a typed term that isn't a free range is small
      small_form : (inner : Scope) (t : TermTree) (f : Form) → TypedTerm sizes scope taken false inner t → form_of sizes scope inner t ≡ Some f → IsSmall f
      small_form inner (Bin s x y) f t e = some_and IsSmall _ f e t.2
      small_form inner (Neg x) f t e = some_and IsSmall _ f e t.1
      small_form inner (Card x) f t e = some_and IsSmall _ f e t.1
      small_form inner (Listed ts) f t e = some_and IsSmall _ f e t.1
      small_form inner (Test g) f t e = subst IsSmall (some_is _ f e) tt
      small_form inner t f h e = some_and IsSmall _ f e h

      walk_told : (go_on : Bool) (kind : Kind) (d : Domain) (f : FormulaTree) (g : Value → Option Bool) → Covers kind d f → is_walkable sizes d ≡ true →
          ((v : Value) → In sizes d v → (b : Bool) × (g v ≡ Some b)) → (b : Bool) × (where_named true (walk sizes go_on (walked_domain sizes kind f) g) ≡ Some b)
      walk_told go_on kind d f g c w told =
          let at : walked_domain sizes kind f ≡ Some c.found = ap (if_walkable sizes) c.is ∙ ap (λ b. if b then Some c.found else None) (c.walks w) in
          let all = until_some go_on 0 (count_of sizes c.found) (λ i. g (value_number sizes c.found i)) (λ j l m.
          told (value_number sizes c.found j) (c.within (value_number sizes c.found j) (walk_in sizes c.found j (omega (arith, m))))) in
          (all.0, ap (λ o. walk sizes go_on o g) at ∙ all.1)

      mutual
        -- a typed term is worked out, and its value is of its form
        pub term_told : (r : Bool) (inner : Scope) (env : List Value) (t : TermTree) (f : Form) → AgreesInside inner env → TypedTerm sizes scope taken r inner t →
            form_of sizes scope inner t ≡ Some f → Told r env t f
        term_told r inner env (Var x) f a t e =
            let o = agrees x f e in
            record { value_is = look x; worked = form_given sizes few f (look x) (some_and IsSmall _ f e t) o; of_form = o }
        term_told r inner env (Bound j) f a t e =
            let p = inside_told inner env j f a e in
            record {
              value_is = p.0;
              worked = ap (λ o. with_one o (λ v. where_named true (given v))) p.1.0 ∙ form_given sizes few f p.0 (some_and IsSmall _ f e t) p.1.1;
              of_form = p.1.1;
            }
        term_told r inner env (Num n) f a t e =
            let o : IsOfForm sizes f (value.Int n) = subst (λ g. IsOfForm sizes g (value.Int n)) (some_is _ f e) (omega (arith, ints), omega (arith, ints)) in
            record { value_is = value.Int n; worked = form_kept sizes few f (value.Int n) (some_and IsSmall _ f e t) o; of_form = o }
        term_told r inner env (Truth b) f a t e =
            record { value_is = value.Truth b; worked = refl; of_form = subst (λ g. IsOfForm sizes g (value.Truth b)) (some_is _ f e) tt }
        term_told r inner env (Elem set index) f a t e = record { value_is = value.Elem index; worked = refl; of_form = by (nat_lt index (size_of_set sizes set)) refl e }
          where
            by : (b : Bool) → nat_lt index (size_of_set sizes set) ≡ b → (if b then Some (form.Element set) else None) ≡ Some f → IsOfForm sizes f (value.Elem index)
            by true l e = subst (λ g. IsOfForm sizes g (value.Elem index)) (some_is _ f e) (below _ _ l)
              where
                below : (m n : ℕ) → nat_lt m n ≡ true → m < n
                below m n l = grind arith
            by false l e = cc
        term_told r inner env (Bin s x y) f a t e =
            both_forms (form_of sizes scope inner x) (form_of sizes scope inner y) (bin_form s (literal y)) f (Told r env (Bin s x y) f) e (λ g h ex ey eb.
            let u = term_told false inner env x g a t.0 ex in
            let w = term_told false inner env y h a t.1 ey in
            let lit : (d : ℤ) → literal y ≡ Some d → w.value_is ≡ value.Int d = λ d is. literal_value inner env y d w.value_is is w.worked in
            let o = bin_of sizes s (literal y) g h f u.value_is w.value_is lit eb u.of_form w.of_form in
            record {
              value_is = bin s u.value_is w.value_is;
              worked = (λ i. with_two (u.worked i) (w.worked i) (λ u w. kept_unless (is_free_range r s) true (bin s u w)))
                  ∙ kept_free r s f (bin s u.value_is w.value_is) (unless_small (is_free_range r s) (form_of sizes scope inner (Bin s x y)) f e t.2) o;
              of_form = o;
            })
        term_told r inner env (Neg x) f a t e =
            one_form (form_of sizes scope inner x) neg_form f (Told r env (Neg x) f) e (λ g ex en.
            let u = term_told false inner env x g a t.0 ex in
            let o = neg_of sizes g f u.value_is en u.of_form in
            record { value_is = neg u.value_is; worked = (λ i. with_one (u.worked i) (λ u. kept true (neg u))) ∙ form_kept sizes few f _ (some_and IsSmall _ f e t.1) o; of_form = o })
        term_told r inner env (Card x) f a t e =
            one_form (form_of sizes scope inner x) card_form f (Told r env (Card x) f) e (λ g ex en.
            let u = term_told false inner env x g a t.0 ex in
            let o = card_of sizes few g f u.value_is en (small_form inner x g t.0 ex) u.of_form in
            record { value_is = card u.value_is; worked = (λ i. with_one (u.worked i) (λ u. kept true (card u))) ∙ form_kept sizes few f _ (some_and IsSmall _ f e t.1) o; of_form = o })
        term_told r inner env (Listed ts) f a t e =
            let xs = terms_told inner env ts f a t.0 e (some_and IsSmall _ f e t.1) in
            record { value_is = value.Set xs.items_are; worked = ap (λ o. with_one o (λ xs. Some (value.Set xs))) xs.worked; of_form = xs.of_form }
        term_told r inner env (Elems set) f a t e = by (nat_lt set (length sizes)) e
          where
            by : (b : Bool) → (if b then Some (form.Elements set) else None) ≡ Some f → Told r env (Elems set) f
            by true e =
                let o = elements_of sizes set in
                record {
                  value_is = value.Set (upwards (pos 0) (size_of_set sizes set));
                  worked = form_kept sizes few (form.Elements set) _ tt o;
                  of_form = subst (λ g. IsOfForm sizes g (value.Set (upwards (pos 0) (size_of_set sizes set)))) (some_is _ f e) o;
                }
            by false e = cc
        term_told r inner env Truths f a t e =
            record {
              value_is = value.Set (pos 0 ∷ pos 1 ∷ []);
              worked = refl;
              of_form = subst (λ g. IsOfForm sizes g (value.Set (pos 0 ∷ pos 1 ∷ []))) (some_is _ f e) ((omega (arith, ints), tt), (refl, (refl, tt)));
            }
        term_told r inner env (Test g) f a t e =
            let b = formula_told inner env g a t in
            record {
              value_is = value.Truth b.0;
              worked = ap (λ o. with_one o (λ b. Some (value.Truth b))) b.1;
              of_form = subst (λ g. IsOfForm sizes g (value.Truth b.0)) (some_is _ f e) tt;
            }

        terms_told : (inner : Scope) (env : List Value) (ts : TermTrees) (f : Form) → AgreesInside inner env → TypedTerms sizes scope taken inner ts →
            form_of_listed sizes scope inner ts ≡ Some f → IsSmall f → ToldItems env ts f
        terms_told inner env End f a t e s = record { items_are = []; worked = refl; of_form = subst (λ g. IsOfForm sizes g (value.Set [])) (some_is _ f e) tt }
        terms_told inner env (More x ts) f a t e s =
            both_forms (then_form (form_of sizes scope inner x) single) (form_of_listed sizes scope inner ts) joined_form f (ToldItems env (More x ts) f) e (λ g h eg eh j.
            one_form (form_of sizes scope inner x) single g (ToldItems env (More x ts) f) eg (λ k ek es.
            let u = term_told false inner env x k a t.0 ek in
            let xs = terms_told inner env ts h a t.1 eh (joined_small sizes g h f j s) in
            let o = listed_of sizes k g h f u.value_is xs.items_are es j u.of_form xs.of_form in
            record {
              items_are = insert (item u.value_is) xs.items_are;
              worked = (λ i. with_two (u.worked i) (xs.worked i) (λ u xs. kept_set (insert (item u) xs))) ∙ set_kept sizes few f _ s o;
              of_form = o;
            }))

        -- a typed formula is worked out
        pub formula_told : (inner : Scope) (env : List Value) (f : FormulaTree) → AgreesInside inner env → TypedFormula sizes scope taken inner f → (b : Bool) × (truth_in sizes true look env f ≡ Some b)
        formula_told inner env True a t = (true, refl)
        formula_told inner env False a t = (false, refl)
        formula_told inner env (Rel s x y) a t =
            some_form _ (form_of sizes scope inner x) ((b : Bool) × (truth_in sizes true look env (Rel s x y) ≡ Some b)) t.2 (λ g eg rest.
            some_form _ (form_of sizes scope inner y) ((b : Bool) × (truth_in sizes true look env (Rel s x y) ≡ Some b)) rest (λ h eh fine.
            let u = term_told false inner env x g a t.0 eg in
            let w = term_told (is_membership s) inner env y h a t.1 eh in
            (rel s u.value_is w.value_is, (λ i. with_two (u.worked i) (w.worked i) (λ u w. Some (rel s u w))))))
        formula_told inner env (Not f) a t =
            let p = formula_told inner env f a t in (not p.0, (λ i. with_one (p.1 i) (λ p. Some (not p))))
        formula_told inner env (And f g) a t =
            let p = formula_told inner env f a t.0 in
            let q = formula_told inner env g a t.1 in (p.0 && q.0, (λ i. with_two (p.1 i) (q.1 i) (λ p q. Some (p && q))))
        formula_told inner env (Or f g) a t =
            let p = formula_told inner env f a t.0 in
            let q = formula_told inner env g a t.1 in (p.0 || q.0, (λ i. with_two (p.1 i) (q.1 i) (λ p q. Some (p || q))))
        formula_told inner env (Implies f g) a t =
            let p = formula_told inner env f a t.0 in
            let q = formula_told inner env g a t.1 in (not p.0 || q.0, (λ i. with_two (p.1 i) (q.1 i) (λ p q. Some (not p || q))))
        formula_told inner env (Iff f g) a t =
            let p = formula_told inner env f a t.0 in
            let q = formula_told inner env g a t.1 in (same_truth p.0 q.0, (λ i. with_two (p.1 i) (q.1 i) (λ p q. Some (same_truth p q))))
        formula_told inner env (Every x kind f) a t =
            let c = covers kind t.0 (premise_of f) t.1.0 t.1.1 in
            walk_told true kind t.0 (premise_of f) (λ v. truth_in sizes true look (v ∷ env) f) c (choosable_walks t.0 t.1.2 t.1.3) (λ v i.
            formula_told ((x, form_of_domain t.0) ∷ inner) (v ∷ env) f (of_domain t.0 v i, a) t.1.5)
        formula_told inner env (Exist x kind f) a t =
            let c = covers kind t.0 f t.1.0 t.1.1 in
            walk_told false kind t.0 f (λ v. truth_in sizes true look (v ∷ env) f) c (choosable_walks t.0 t.1.2 t.1.3) (λ v i.
            formula_told ((x, form_of_domain t.0) ∷ inner) (v ∷ env) f (of_domain t.0 v i, a) t.1.5)

-- ---- with names alone

small_value : (sizes : List ℕ) → AreSmallSets sizes → (f : Form) (v : Value) → IsSmall f → IsOfForm sizes f v → IsSmallValue v
small_value sizes few (form.Number lo hi) (value.Int x) s o = (omega (arith, ints, s.0, o.0), omega (arith, ints, s.1, o.1))
small_value sizes few f (value.Int x) s o = absurd o
small_value sizes few f (value.Truth b) s o = tt
small_value sizes few f (value.Elem k) s o = tt
small_value sizes few f (value.Set xs) s o = set_length sizes few f xs s o

pub typed_value : (sizes : List ℕ) (scope : Scope) (taken : List Name) (look : Look) (t : TermTree) (f : Form) (v : Value) →
    AreSmallSets sizes → Agrees sizes scope look → TypedTerm sizes scope taken false [] t → form_of sizes scope [] t ≡ Some f →
    IsValue sizes look t [] v → IsOfForm sizes f v × IsSmallValue v
typed_value sizes scope taken look t f v few agrees typed e is =
    let told = term_told sizes few scope taken look agrees false [] [] t f tt typed e in
    let same : told.value_is ≡ v = values_are_unique sizes look t [] told.value_is v (value_sound sizes look true false [] t told.value_is told.worked) is in
    subst (λ w. IsOfForm sizes f w × IsSmallValue w) same (told.of_form, small_value sizes few f told.value_is (small_form sizes few scope taken look agrees [] t f typed e) told.of_form)

-- a typed term has a form
has_form : (sizes : List ℕ) (scope : Scope) (taken : List Name) (t : TermTree) → TypedTerm sizes scope taken false [] t → (f : Form) × (form_of sizes scope [] t ≡ Some f)
has_form sizes scope taken (Bin s x y) h = some_form IsSmall _ _ h.2 (λ f e s. (f, e))
has_form sizes scope taken (Neg x) h = some_form IsSmall _ _ h.1 (λ f e s. (f, e))
has_form sizes scope taken (Card x) h = some_form IsSmall _ _ h.1 (λ f e s. (f, e))
has_form sizes scope taken (Listed ts) h = some_form IsSmall _ _ h.1 (λ f e s. (f, e))
has_form sizes scope taken (Test g) h = (form.Truth, refl)
has_form sizes scope taken t h = some_form IsSmall _ _ h (λ f e s. (f, e))

no_answer : {A : Type 0} (o : Option A) (a : A) → o ≡ None → o ≡ Some a → ⊥
no_answer o a e f = cc

pub term_answers : (sizes : List ℕ) (look : Look) (t : TermTree) → TypedTermIn sizes look t → None ≡ value_in sizes true look false [] t → ⊥
term_answers sizes look t h e =
    let f = has_form sizes h.scope h.taken t h.typed in
    let told = term_told sizes h.small_sets h.scope h.taken look h.agrees false [] [] t f.0 tt h.typed f.1 in
    no_answer _ told.value_is (sym e) told.worked

pub formula_answers : (sizes : List ℕ) (look : Look) (f : FormulaTree) → TypedIn sizes look f → None ≡ truth_in sizes true look [] f → ⊥
formula_answers sizes look f h e =
    let told = formula_told sizes h.small_sets h.scope h.taken look h.agrees [] [] f tt h.typed in
    no_answer _ told.0 (sym e) told.1

pub ok_value : {E : Type 0} (sizes : List ℕ) (look : Look) (t : TermTree) (r : Result Value E) (w : Value) → IfOk r (λ v. v ≡ w) → IsValue sizes look t [] w → IfOk r (λ v. IsValue sizes look t [] v)
ok_value sizes look t (Ok v) w e is = subst (λ z. IsValue sizes look t [] z) (sym e) is
ok_value sizes look t (Err e) w h is = tt
