-- What fits has no name that is not among the names, and no loose bound variable.
use Rattle.std.proofs.Common.{◌≡◌, ℕ, zero, suc, ◌+◌, ◌<◌, Bool, true, false, ◌||◌, List, [], ◌∷◌, length, Option, Some, None, refl, sym, subst, arith, slice_get, if◌then◌else◌}
use Rattle.std.proofs.lemmas.Bool.{and_parts}
use Rattle.std.proofs.lemmas.Option.{same_Some}
use Rattle.cb_term.specs.declared.name.Name.{Name}
use Rattle.cb_term.specs.declared.kind.Kind.{Kind}
use Rattle.cb_term.specs.Tree.{TermTree, Var, Bound, Num, Truth, Elem, Bin, Neg, Card, Listed, Elems, Truths, Test, TermTrees, End, More, FormulaTree, True, False, Rel, Not, And, Or, Implies, Iff, Every, Exist}
use Rattle.cb_term.specs.Free.{free_in_term, free_in_terms, free_in}
use Rattle.cb_term.specs.Closed.{IsClosedTerm, AreClosedTerms, IsClosed}
use Rattle.cb_seq.specs.Kinds.{kind_in, one_kind, both_kinds, both_fit, neg_kind, card_kind, more_kind, bin_kind, rel_kinds, kind_of, kind_of_all, fits}
use Rattle.cb_term.proofs.ValueLemmas.{same_name_tells}

pub one_some : (g : Kind → Option Kind) (o : Option Kind) (k : Kind) → one_kind g o ≡ Some k → (l : Kind) × (o ≡ Some l) × (g l ≡ Some k)
one_some g None k e = cc
one_some g (Some l) k e = (l, refl, e)

pub both_some : (g : Kind → Kind → Option Kind) (o p : Option Kind) (k : Kind) → both_kinds g o p ≡ Some k →
    (l : Kind) × (m : Kind) × (o ≡ Some l) × (p ≡ Some m) × (g l m ≡ Some k)
both_some g None p k e = cc
both_some g (Some l) None k e = cc
both_some g (Some l) (Some m) k e = (l, m, refl, refl, e)

pub both_true : (g : Kind → Kind → Bool) (o p : Option Kind) → both_fit g o p ≡ true →
    (l : Kind) × (m : Kind) × (o ≡ Some l) × (p ≡ Some m) × (g l m ≡ true)
both_true g None p e = cc
both_true g (Some l) None e = cc
both_true g (Some l) (Some m) e = (l, m, refl, refl, e)

pub test_some : (b : Bool) (l k : Kind) → (if b then Some l else None) ≡ Some k → (b ≡ true) × (l ≡ k)
test_some true l k e = (refl, same_Some l k e)
test_some false l k e = cc

get_below : {X : Type 0} (xs : List X) (j : ℕ) (x : X) → slice_get xs j ≡ Some x → j < length xs
get_below [] j x e = cc
get_below (y ∷ ys) zero x e = omega arith
get_below (y ∷ ys) (suc j) x e = omega (arith, get_below ys j x e)

or_none : (a b : Bool) → (a ≡ true → ⊥) → (b ≡ true → ⊥) → (a || b) ≡ true → ⊥
or_none true b p q e = p refl
or_none false b p q e = q e

-- a name that has no kind stands nowhere in what fits
module _ (sizes : List ℕ) (names : List (Name × Kind)) (x : Name) (none : kind_in names x ≡ None) where
  mutual
    pub kind_not_free : (t : TermTree) (ks : List Kind) (k : Kind) → kind_of sizes names ks t ≡ Some k → free_in_term x t ≡ true → ⊥
    kind_not_free (Var y) ks k e h = let i : kind_in names x ≡ Some k = subst (λ z. kind_in names z ≡ Some k) (same_name_tells y x h) e in cc
    kind_not_free (Bound j) ks k e h = cc
    kind_not_free (Num n) ks k e h = cc
    kind_not_free (Truth b) ks k e h = cc
    kind_not_free (Elem s i) ks k e h = cc
    kind_not_free (Elems s) ks k e h = cc
    kind_not_free Truths ks k e h = cc
    kind_not_free (Bin s a b) ks k e h =
        let p = both_some (bin_kind s) (kind_of sizes names ks a) (kind_of sizes names ks b) k e in
        or_none (free_in_term x a) (free_in_term x b) (kind_not_free a ks p.0 p.2) (kind_not_free b ks p.1 p.3) h
    kind_not_free (Neg a) ks k e h = let p = one_some neg_kind (kind_of sizes names ks a) k e in kind_not_free a ks p.0 p.1 h
    kind_not_free (Card a) ks k e h = let p = one_some card_kind (kind_of sizes names ks a) k e in kind_not_free a ks p.0 p.1 h
    kind_not_free (Listed ts) ks k e h = kinds_not_free ts ks k e h
    kind_not_free (Test f) ks k e h = fits_not_free f ks (test_some (fits sizes names ks f) _ k e).0 h

    pub kinds_not_free : (ts : TermTrees) (ks : List Kind) (k : Kind) → kind_of_all sizes names ks ts ≡ Some k → free_in_terms x ts ≡ true → ⊥
    kinds_not_free End ks k e h = cc
    kinds_not_free (More t ts) ks k e h =
        let p = both_some more_kind (kind_of sizes names ks t) (kind_of_all sizes names ks ts) k e in
        or_none (free_in_term x t) (free_in_terms x ts) (kind_not_free t ks p.0 p.2) (kinds_not_free ts ks p.1 p.3) h

    pub fits_not_free : (f : FormulaTree) (ks : List Kind) → fits sizes names ks f ≡ true → free_in x f ≡ true → ⊥
    fits_not_free True ks e h = cc
    fits_not_free False ks e h = cc
    fits_not_free (Rel s a b) ks e h =
        let p = both_true (rel_kinds s) (kind_of sizes names ks a) (kind_of sizes names ks b) e in
        or_none (free_in_term x a) (free_in_term x b) (kind_not_free a ks p.0 p.2) (kind_not_free b ks p.1 p.3) h
    fits_not_free (Not f) ks e h = fits_not_free f ks e h
    fits_not_free (And f g) ks e h = let p = and_parts (fits sizes names ks f) (fits sizes names ks g) e in or_none (free_in x f) (free_in x g) (fits_not_free f ks p.0) (fits_not_free g ks p.1) h
    fits_not_free (Or f g) ks e h = let p = and_parts (fits sizes names ks f) (fits sizes names ks g) e in or_none (free_in x f) (free_in x g) (fits_not_free f ks p.0) (fits_not_free g ks p.1) h
    fits_not_free (Implies f g) ks e h = let p = and_parts (fits sizes names ks f) (fits sizes names ks g) e in or_none (free_in x f) (free_in x g) (fits_not_free f ks p.0) (fits_not_free g ks p.1) h
    fits_not_free (Iff f g) ks e h = let p = and_parts (fits sizes names ks f) (fits sizes names ks g) e in or_none (free_in x f) (free_in x g) (fits_not_free f ks p.0) (fits_not_free g ks p.1) h
    fits_not_free (Every y k f) ks e h = fits_not_free f (k ∷ ks) e h
    fits_not_free (Exist y k f) ks e h = fits_not_free f (k ∷ ks) e h

-- what fits has no loose bound variable
module _ (sizes : List ℕ) (names : List (Name × Kind)) where
  mutual
    pub kind_closed : (t : TermTree) (ks : List Kind) (k : Kind) → kind_of sizes names ks t ≡ Some k → (n : ℕ) → n ≡ length ks → IsClosedTerm n t
    kind_closed (Var y) ks k e n l = tt
    kind_closed (Bound j) ks k e n l = subst (λ m. j < m) (sym l) (get_below ks j k e)
    kind_closed (Num m) ks k e n l = tt
    kind_closed (Truth b) ks k e n l = tt
    kind_closed (Elem s i) ks k e n l = tt
    kind_closed (Elems s) ks k e n l = tt
    kind_closed Truths ks k e n l = tt
    kind_closed (Bin s a b) ks k e n l =
        let p = both_some (bin_kind s) (kind_of sizes names ks a) (kind_of sizes names ks b) k e in
        (kind_closed a ks p.0 p.2 n l, kind_closed b ks p.1 p.3 n l)
    kind_closed (Neg a) ks k e n l = let p = one_some neg_kind (kind_of sizes names ks a) k e in kind_closed a ks p.0 p.1 n l
    kind_closed (Card a) ks k e n l = let p = one_some card_kind (kind_of sizes names ks a) k e in kind_closed a ks p.0 p.1 n l
    kind_closed (Listed ts) ks k e n l = kinds_closed ts ks k e n l
    kind_closed (Test f) ks k e n l = fits_closed f ks (test_some (fits sizes names ks f) _ k e).0 n l

    pub kinds_closed : (ts : TermTrees) (ks : List Kind) (k : Kind) → kind_of_all sizes names ks ts ≡ Some k → (n : ℕ) → n ≡ length ks → AreClosedTerms n ts
    kinds_closed End ks k e n l = tt
    kinds_closed (More t ts) ks k e n l =
        let p = both_some more_kind (kind_of sizes names ks t) (kind_of_all sizes names ks ts) k e in
        (kind_closed t ks p.0 p.2 n l, kinds_closed ts ks p.1 p.3 n l)

    pub fits_closed : (f : FormulaTree) (ks : List Kind) → fits sizes names ks f ≡ true → (n : ℕ) → n ≡ length ks → IsClosed n f
    fits_closed True ks e n l = tt
    fits_closed False ks e n l = tt
    fits_closed (Rel s a b) ks e n l =
        let p = both_true (rel_kinds s) (kind_of sizes names ks a) (kind_of sizes names ks b) e in
        (kind_closed a ks p.0 p.2 n l, kind_closed b ks p.1 p.3 n l)
    fits_closed (Not f) ks e n l = fits_closed f ks e n l
    fits_closed (And f g) ks e n l = let p = and_parts (fits sizes names ks f) (fits sizes names ks g) e in (fits_closed f ks p.0 n l, fits_closed g ks p.1 n l)
    fits_closed (Or f g) ks e n l = let p = and_parts (fits sizes names ks f) (fits sizes names ks g) e in (fits_closed f ks p.0 n l, fits_closed g ks p.1 n l)
    fits_closed (Implies f g) ks e n l = let p = and_parts (fits sizes names ks f) (fits sizes names ks g) e in (fits_closed f ks p.0 n l, fits_closed g ks p.1 n l)
    fits_closed (Iff f g) ks e n l = let p = and_parts (fits sizes names ks f) (fits sizes names ks g) e in (fits_closed f ks p.0 n l, fits_closed g ks p.1 n l)
    fits_closed (Every y k f) ks e n l = fits_closed f (k ∷ ks) e (n + 1) (omega (arith, l))
    fits_closed (Exist y k f) ks e n l = fits_closed f (k ∷ ks) e (n + 1) (omega (arith, l))
