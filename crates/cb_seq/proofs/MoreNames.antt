-- What fits among names fits among more of them, and what is true there does not depend on a name that is not among them.
use Rattle.std.proofs.Common.{◌≡◌, ℕ, zero, suc, ◌+◌, ◌<◌, ◌==◌, Bool, true, false, ◌&&◌, List, [], ◌∷◌, ◌++◌, Some, None, refl, sym, ap, ap₂, ◌∙◌, subst, arith, slice_get, if◌then◌else◌, ◌↔◌}
use Rattle.std.specs.Prelude.{nat_lt, bytes_eq}
use Rattle.std.proofs.lemmas.Bool.{and_parts, and_from, eqb-true}
use Rattle.std.proofs.lemmas.Option.{same_Some}
use Rattle.cb_term.specs.declared.name.Name.{Name}
use Rattle.cb_term.specs.declared.kind.Kind.{Kind}
use Rattle.cb_term.specs.declared.kind.Kind.TheVariants as kind
use Rattle.cb_term.specs.declared.value.Value.{Value}
use Rattle.cb_term.specs.Names.{same_name}
use Rattle.cb_term.specs.Tree.{TermTree, Var, Bound, Num, Truth, Elem, Bin, Neg, Card, Listed, Elems, Truths, Test, TermTrees, End, More, FormulaTree, True, False, Rel, Not, And, Or, Implies, Iff, Every, Exist}
use Rattle.cb_term.specs.Values.{Look, IsOf, set_at}
use Rattle.cb_term.specs.Holds.{Holds, IsValue}
use Rattle.cb_term.specs.Free.{free_in_term, free_in}
use Rattle.cb_term.specs.Change.{open_formula}
use Rattle.cb_term.proofs.ValueLemmas.{same_name_tells, same_name_self}
use Rattle.cb_term.proofs.FreeLemmas.{agree_meets, agree_holds}
use Rattle.cb_term.proofs.LawLemmas.{holds_open}
use Rattle.cb_seq.specs.Kinds.{kind_in, kind_of, kind_of_all, fits, one_kind, both_kinds, both_fit, bin_kind, neg_kind, card_kind, more_kind, rel_kinds, Gives}
use Rattle.cb_seq.specs.Validity.{AllHold, AllFit, AreDifferent}
use Rattle.cb_seq.specs.Premises.{greatest, fresh}
use Rattle.cb_seq.proofs.KindLemmas.{one_some, both_some, both_true, test_some, fits_not_free, kind_not_free}

-- ---- further names and further bound variables

abbrev pub Extends : List Kind → List Kind → Type 0
Extends ks ks' = (j : ℕ) (k : Kind) → slice_get ks j ≡ Some k → slice_get ks' j ≡ Some k

extends_more : (ks ks' : List Kind) (l : Kind) → Extends ks ks' → Extends (l ∷ ks) (l ∷ ks')
extends_more ks ks' l h zero k e = e
extends_more ks ks' l h (suc j) k e = h j k e

and_both : (a b a' b' : Bool) → (a && b) ≡ true → (a ≡ true → a' ≡ true) → (b ≡ true → b' ≡ true) → (a' && b') ≡ true
and_both a b a' b' e f g = let p = and_parts a b e in and_from a' b' (f p.0) (g p.1)

test_both : (b c : Bool) (k : Kind) → (if b then Some kind.Truth else None) ≡ Some k → (b ≡ true → c ≡ true) → (if c then Some kind.Truth else None) ≡ Some k
test_both b c k e h = let p = test_some b kind.Truth k e in subst (λ z. (if z then Some kind.Truth else None) ≡ Some k) (sym (h p.0)) (ap Some p.1)

module _ (sizes : List ℕ) (names names' : List (Name × Kind)) (names_more : (y : Name) (k : Kind) → kind_in names y ≡ Some k → kind_in names' y ≡ Some k) where
  mutual
    pub kind_more : (a : TermTree) (ks ks' : List Kind) (k : Kind) → Extends ks ks' → kind_of sizes names ks a ≡ Some k → kind_of sizes names' ks' a ≡ Some k
    kind_more (Var y) ks ks' k x e = names_more y k e
    kind_more (Bound j) ks ks' k x e = x j k e
    kind_more (Num n) ks ks' k x e = e
    kind_more (Truth b) ks ks' k x e = e
    kind_more (Elem s i) ks ks' k x e = e
    kind_more (Elems s) ks ks' k x e = e
    kind_more Truths ks ks' k x e = e
    kind_more (Bin s a b) ks ks' k x e =
        let p = both_some (bin_kind s) (kind_of sizes names ks a) (kind_of sizes names ks b) k e in
        ap₂ (both_kinds (bin_kind s)) (kind_more a ks ks' p.0 x p.2) (kind_more b ks ks' p.1 x p.3) ∙ p.4
    kind_more (Neg a) ks ks' k x e = let p = one_some neg_kind (kind_of sizes names ks a) k e in ap (one_kind neg_kind) (kind_more a ks ks' p.0 x p.1) ∙ p.2
    kind_more (Card a) ks ks' k x e = let p = one_some card_kind (kind_of sizes names ks a) k e in ap (one_kind card_kind) (kind_more a ks ks' p.0 x p.1) ∙ p.2
    kind_more (Listed ts) ks ks' k x e = kinds_more ts ks ks' k x e
    kind_more (Test f) ks ks' k x e = test_both _ _ k e (fits_more f ks ks' x)

    pub kinds_more : (ts : TermTrees) (ks ks' : List Kind) (k : Kind) → Extends ks ks' → kind_of_all sizes names ks ts ≡ Some k → kind_of_all sizes names' ks' ts ≡ Some k
    kinds_more End ks ks' k x e = e
    kinds_more (More a ts) ks ks' k x e =
        let p = both_some more_kind (kind_of sizes names ks a) (kind_of_all sizes names ks ts) k e in
        ap₂ (both_kinds more_kind) (kind_more a ks ks' p.0 x p.2) (kinds_more ts ks ks' p.1 x p.3) ∙ p.4

    pub fits_more : (f : FormulaTree) (ks ks' : List Kind) → Extends ks ks' → fits sizes names ks f ≡ true → fits sizes names' ks' f ≡ true
    fits_more True ks ks' x e = refl
    fits_more False ks ks' x e = refl
    fits_more (Rel s a b) ks ks' x e =
        let p = both_true (rel_kinds s) (kind_of sizes names ks a) (kind_of sizes names ks b) e in
        ap₂ (both_fit (rel_kinds s)) (kind_more a ks ks' p.0 x p.2) (kind_more b ks ks' p.1 x p.3) ∙ p.4
    fits_more (Not f) ks ks' x e = fits_more f ks ks' x e
    fits_more (And f g) ks ks' x e = and_both _ _ _ _ e (fits_more f ks ks' x) (fits_more g ks ks' x)
    fits_more (Or f g) ks ks' x e = and_both _ _ _ _ e (fits_more f ks ks' x) (fits_more g ks ks' x)
    fits_more (Implies f g) ks ks' x e = and_both _ _ _ _ e (fits_more f ks ks' x) (fits_more g ks ks' x)
    fits_more (Iff f g) ks ks' x e = and_both _ _ _ _ e (fits_more f ks ks' x) (fits_more g ks ks' x)
    fits_more (Every y l f) ks ks' x e = fits_more f (l ∷ ks) (l ∷ ks') (extends_more ks ks' l x) e
    fits_more (Exist y l f) ks ks' x e = fits_more f (l ∷ ks) (l ∷ ks') (extends_more ks ks' l x) e

-- ---- one name more

pub names_kept : (names : List (Name × Kind)) (n : Name × Kind) (y : Name) (k : Kind) → kind_in names y ≡ Some k → kind_in (names ++ n ∷ []) y ≡ Some k
names_kept [] n y k e = cc
names_kept (t ∷ ts) n y k e = by (same_name y t.0) e (names_kept ts n y k)
  where
    by : (b : Bool) → (if b then Some t.1 else kind_in ts y) ≡ Some k → (kind_in ts y ≡ Some k → kind_in (ts ++ n ∷ []) y ≡ Some k) → (if b then Some t.1 else kind_in (ts ++ n ∷ []) y) ≡ Some k
    by true e r = e
    by false e r = r e

-- what fits still does
pub fits_naming : (sizes : List ℕ) (names : List (Name × Kind)) (n : Name × Kind) (f : FormulaTree) (ks : List Kind) → fits sizes names ks f ≡ true → fits sizes (names ++ n ∷ []) ks f ≡ true
fits_naming sizes names n f ks e = fits_more sizes names (names ++ n ∷ []) (names_kept names n) f ks ks (λ j k h. h) e

pub kind_naming : (sizes : List ℕ) (names : List (Name × Kind)) (n : Name × Kind) (t : TermTree) (ks : List Kind) (k : Kind) → kind_of sizes names ks t ≡ Some k → kind_of sizes (names ++ n ∷ []) ks t ≡ Some k
kind_naming sizes names n t ks k e = kind_more sizes names (names ++ n ∷ []) (names_kept names n) t ks ks k (λ j k h. h) e

pub all_naming : (sizes : List ℕ) (names : List (Name × Kind)) (n : Name × Kind) (fs : List FormulaTree) → AllFit sizes names fs → AllFit sizes (names ++ n ∷ []) fs
all_naming sizes names n [] a = tt
all_naming sizes names n (f ∷ fs) a = (fits_naming sizes names n f [] a.0, all_naming sizes names n fs a.1)

pub more_same : (names : List (Name × Kind)) (x y : Name) (k : Kind) → same_name x y ≡ false → kind_in (names ++ (y, k) ∷ []) x ≡ kind_in names x
more_same [] x y k e = rw e refl
more_same (t ∷ ts) x y k e = ap (λ o. if same_name x t.0 then Some t.1 else o) (more_same ts x y k e)

pub more_new : (names : List (Name × Kind)) (y : Name) (k : Kind) → kind_in names y ≡ None → kind_in (names ++ (y, k) ∷ []) y ≡ Some k
more_new [] y k e = rw (same_name_self y) refl
more_new (t ∷ ts) y k e = by_test (same_name y t.0) e (more_new ts y k)
  where
    by_test : (b : Bool) → (if b then Some t.1 else kind_in ts y) ≡ None → (kind_in ts y ≡ None → kind_in (ts ++ (y, k) ∷ []) y ≡ Some k) →
        (if b then Some t.1 else kind_in (ts ++ (y, k) ∷ []) y) ≡ Some k
    by_test true e r = cc
    by_test false e r = r e

some_none : {k : Kind} → Some k ≡ None → ⊥
some_none e = cc

-- the names still differ
pub differ_more : (names : List (Name × Kind)) (y : Name) (k : Kind) → kind_in names y ≡ None → AreDifferent names → AreDifferent (names ++ (y, k) ∷ [])
differ_more [] y k none d = (refl, tt)
differ_more (t ∷ ts) y k none d = by_test (same_name y t.0) refl none (λ n. differ_more ts y k n d.1)
  where
    other : (b : Bool) → same_name t.0 y ≡ b → same_name y t.0 ≡ false → same_name t.0 y ≡ false
    other false e f = e
    other true e f = cc (sym (same_name_self y) ∙ subst (λ z. same_name y z ≡ false) (same_name_tells t.0 y e) f)

    by_test : (b : Bool) → same_name y t.0 ≡ b → (if b then Some t.1 else kind_in ts y) ≡ None → (kind_in ts y ≡ None → AreDifferent (ts ++ (y, k) ∷ [])) → AreDifferent (t ∷ (ts ++ (y, k) ∷ []))
    by_test true e none r = absurd (some_none none)
    by_test false e none r = (more_same ts t.0 y k (other (same_name t.0 y) refl e) ∙ d.0, r none)

-- ---- a name that is not among the names

above_none : (names : List (Name × Kind)) (y : Name) → greatest names < y.number → kind_in names y ≡ None
above_none [] y lt = refl
above_none (t ∷ ts) y lt = by_test (same_name y t.0) refl (above_none ts y (omega (arith, lt)))
  where
    by_test : (b : Bool) → same_name y t.0 ≡ b → kind_in ts y ≡ None → (if b then Some t.1 else kind_in ts y) ≡ None
    by_test true e r =
        let p = and_parts (bytes_eq y.text t.0.text) (y.number == t.0.number) e in
        absurd (omega (arith, lt, eqb-true y.number t.0.number p.1))
    by_test false e r = r

pub fresh_is_new : (names : List (Name × Kind)) (text : List ℕ) (y : Name) → fresh names text ≡ Some y → kind_in names y ≡ None
fresh_is_new names text y e = by_test (nat_lt (greatest names) 4294967295) e
  where
    new : Name
    new = record { text = text; number = greatest names + 1 }

    by_test : (b : Bool) → (if b then Some new else None) ≡ Some y → kind_in names y ≡ None
    by_test true e = subst (λ z. kind_in names z ≡ None) (same_Some new y e) (above_none names new (omega arith))
    by_test false e = cc

module _ (sizes : List ℕ) (look : Look) (names : List (Name × Kind)) (y : Name) (v : Value) (none : kind_in names y ≡ None) where
  pub gives_more : (k : Kind) → Gives sizes look names → IsOf sizes k v → Gives sizes (set_at look y v) (names ++ (y, k) ∷ [])
  gives_more k g i x l e = by_test (same_name x y) refl
    where
      by_test : (b : Bool) → same_name x y ≡ b → IsOf sizes l (if b then v else look x)
      by_test true same =
          let e' : kind_in (names ++ (y, k) ∷ []) y ≡ Some l = subst (λ z. kind_in (names ++ (y, k) ∷ []) z ≡ Some l) (same_name_tells x y same) e in
          subst (λ m. IsOf sizes m v) (same_Some k l (sym (more_new names y k none) ∙ e')) i
      by_test false same = g x l (sym (more_same names x y k same) ∙ e)

  -- what fits among the names holds alike, whatever the other name's value
  pub unused : (f : FormulaTree) (ks : List Kind) (env : List Value) → fits sizes names ks f ≡ true → Holds sizes look f env ↔ Holds sizes (set_at look y v) f env
  unused f ks env fit = agree_holds sizes look (set_at look y v) ⊥ f env (λ z free. by_test z free (same_name z y) refl)
    where
      by_test : (z : Name) → free_in z f ≡ true → (b : Bool) → same_name z y ≡ b → look z ≡ (if b then v else look z)
      by_test z free true same = absurd (fits_not_free sizes names y none f ks fit (subst (λ w. free_in w f ≡ true) (same_name_tells z y same) free))
      by_test z free false same = refl

  pub all_unused : (fs : List FormulaTree) → AllFit sizes names fs → AllHold sizes look fs → AllHold sizes (set_at look y v) fs
  all_unused [] a h = tt
  all_unused (f ∷ fs) a h = ((unused f [] [] a.0).0 h.0, all_unused fs a.1 h.1)

  -- a term keeps its value
  pub unused_term : (t : TermTree) (k : Kind) (w : Value) → kind_of sizes names [] t ≡ Some k → IsValue sizes look t [] w → IsValue sizes (set_at look y v) t [] w
  unused_term t k w e = (agree_meets sizes look (set_at look y v) t [] (λ z. z ≡ w) (λ z free. by_test z free (same_name z y) refl)).0
    where
      by_test : (z : Name) → free_in_term z t ≡ true → (b : Bool) → same_name z y ≡ b → look z ≡ (if b then v else look z)
      by_test z free true same = absurd (kind_not_free sizes names y none t [] k e (subst (λ w. free_in_term w t ≡ true) (same_name_tells z y same) free))
      by_test z free false same = refl

  pub at_self : set_at look y v y ≡ v
  at_self = rw (same_name_self y) refl

  -- the formula at the other name, which has the value v
  pub opened : (f : FormulaTree) (k : Kind) → fits sizes names (k ∷ []) f ≡ true → Holds sizes (set_at look y v) (open_formula (Var y) f) [] ↔ Holds sizes look f (v ∷ [])
  opened f k fit =
      let p = holds_open sizes (set_at look y v) (Var y) v tt at_self f in
      let u = unused f (k ∷ []) (v ∷ []) fit in
      ((λ h. u.1 (p.0 h)), (λ h. p.1 (u.0 h)))
