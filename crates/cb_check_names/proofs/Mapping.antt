-- A tree with other terms in the places of its names and bound variables has the tree's kind, or that of `{}` where the tree
-- is a set.
use Rattle.std.proofs.Common.{◌≡◌, ℕ, ◌+◌, true, List, ◌∷◌, Option, Some, None, is_some, refl, sym, ap, ap₂, ◌∙◌, subst, slice_get, if◌then◌else◌}
use Rattle.std.proofs.lemmas.Bool.{and_parts, and_from}
use Rattle.std.proofs.lemmas.Option.{same_Some}
use Rattle.cb_term.specs.declared.name.Name.{Name}
use Rattle.cb_term.specs.declared.kind.Kind.{Kind}
use Rattle.cb_term.specs.declared.kind.Kind.TheVariants.{Integer, SetOf, EmptySet}
use Rattle.cb_term.specs.declared.kind.Kind.TheVariants as kind
use Rattle.cb_term.specs.declared.kind.Base.{Base}
use Rattle.cb_term.specs.declared.kind.Base.TheVariants as base
use Rattle.cb_term.specs.declared.sign.TermSign.{TermSign}
use Rattle.cb_term.specs.declared.sign.TermSign.TheVariants.{Minus, Union, Inter}
use Rattle.cb_term.specs.declared.sign.RelSign.{RelSign}
use Rattle.cb_term.specs.declared.sign.RelSign.TheVariants.{Equal, Less, AtMost, Member, Subset}
use Rattle.cb_term.specs.Kinds.{same_base}
use Rattle.cb_term.specs.Tree as tree
use Rattle.cb_term.specs.Tree.{TermTree, TermTrees, FormulaTree}
use Rattle.cb_term.specs.Change.{mapped_term, mapped_terms, mapped_formula}
use Rattle.cb_term.proofs.ValueLemmas.{same_base_tells}
use Rattle.cb_seq.specs.Kinds.{kind_in, common_set, bin_kind, neg_kind, card_kind, more_kind, is_base, base_of, rel_kinds, one_kind, both_kinds, both_fit, kind_of, kind_of_all, fits}
use Rattle.cb_seq.proofs.KindLemmas.{one_some, both_some, both_true, test_some}

-- the first kind is the second, or that of `{}` for one of sets
abbrev pub Below : Kind → Kind → Type 0
Below EmptySet (SetOf b) = Unit {0}
Below k l = k ≡ l

pub below_self : (k : Kind) → Below k k
below_self Integer = refl
below_self kind.Truth = refl
below_self (kind.Elem j) = refl
below_self (SetOf b) = refl
below_self EmptySet = refl

pub by_below : (k l : Kind) → Below k l → (P : Kind → Type 0) → P l → ((b : Base) → l ≡ SetOf b → P EmptySet) → P k
by_below EmptySet (SetOf b) h P p q = q b refl
by_below EmptySet Integer h P p q = subst P (sym h) p
by_below EmptySet kind.Truth h P p q = subst P (sym h) p
by_below EmptySet (kind.Elem j) h P p q = subst P (sym h) p
by_below EmptySet EmptySet h P p q = p
by_below Integer l h P p q = subst P (sym h) p
by_below kind.Truth l h P p q = subst P (sym h) p
by_below (kind.Elem j) l h P p q = subst P (sym h) p
by_below (SetOf b) l h P p q = subst P (sym h) p

below_set : (k : Kind) (b : Base) → k ≡ SetOf b → Below EmptySet k
below_set k b e = subst (Below EmptySet) (sym e) tt

-- a kind, and at most the wanted one
abbrev pub IsBelow : Option Kind → Kind → Type 0
IsBelow o k = (l : Kind) × (o ≡ Some l) × Below l k

-- ---- sets

set_common : (b : Base) (l m : Kind) → common_set (SetOf b) l ≡ Some m → m ≡ SetOf b
set_common b (SetOf c) m e = sym (test_some (same_base b c) (SetOf b) m e).1
set_common b EmptySet m e = sym (same_Some (SetOf b) m e)
set_common b l m e = cc

left_empty : (b : Base) (l m : Kind) → common_set (SetOf b) l ≡ Some m → IsBelow (common_set EmptySet l) m
left_empty b (SetOf c) m e =
    let p = test_some (same_base b c) (SetOf b) m e in
    let same : SetOf c ≡ m = ap SetOf (sym (same_base_tells b c p.0)) ∙ p.1 in
    (SetOf c, refl, subst (Below (SetOf c)) same refl)
left_empty b EmptySet m e = (EmptySet, refl, below_set m b (set_common b EmptySet m e))
left_empty b l m e = cc

right_empty : (k : Kind) (b : Base) (m : Kind) → common_set k (SetOf b) ≡ Some m → IsBelow (common_set k EmptySet) m
right_empty (SetOf c) b m e = (SetOf c, refl, sym (set_common c (SetOf b) m e))
right_empty EmptySet b m e = (EmptySet, refl, below_set m b (sym (same_Some (SetOf b) m e)))
right_empty k b m e = cc

both_empty : (b c : Base) (m : Kind) → common_set (SetOf b) (SetOf c) ≡ Some m → IsBelow (common_set EmptySet EmptySet) m
both_empty b c m e = (EmptySet, refl, below_set m b (set_common b (SetOf c) m e))

-- what is so of kinds is so of kinds below them
module _ (F : Kind → Kind → Option Kind)
    (left : (b : Base) (l m : Kind) → F (SetOf b) l ≡ Some m → IsBelow (F EmptySet l) m)
    (right : (k : Kind) (b : Base) (m : Kind) → F k (SetOf b) ≡ Some m → IsBelow (F k EmptySet) m)
    (both : (b c : Base) (m : Kind) → F (SetOf b) (SetOf c) ≡ Some m → IsBelow (F EmptySet EmptySet) m) where
  two_below : (k' l' k l m : Kind) → Below k' k → Below l' l → F k l ≡ Some m → IsBelow (F k' l') m
  two_below k' l' k l m hk hl e = by_below k' k hk (λ z. IsBelow (F z l') m)
      (by_below l' l hl (λ z. IsBelow (F k z) m) (m, e, below_self m) (λ c le. right k c m (ap (F k) (sym le) ∙ e)))
      (λ b ke. by_below l' l hl (λ z. IsBelow (F EmptySet z) m) (left b l m (ap (λ z. F z l) (sym ke) ∙ e))
      (λ c le. both b c m (ap₂ F (sym ke) (sym le) ∙ e)))

bin_left : (s : TermSign) (b : Base) (l m : Kind) → bin_kind s (SetOf b) l ≡ Some m → IsBelow (bin_kind s EmptySet l) m
bin_left Minus b l m e = left_empty b l m e
bin_left Union b l m e = left_empty b l m e
bin_left Inter b l m e = left_empty b l m e
bin_left s b l m e = cc

bin_right : (s : TermSign) (k : Kind) (b : Base) (m : Kind) → bin_kind s k (SetOf b) ≡ Some m → IsBelow (bin_kind s k EmptySet) m
bin_right Minus (SetOf c) b m e = right_empty (SetOf c) b m e
bin_right Minus EmptySet b m e = right_empty EmptySet b m e
bin_right Union (SetOf c) b m e = right_empty (SetOf c) b m e
bin_right Union EmptySet b m e = right_empty EmptySet b m e
bin_right Inter (SetOf c) b m e = right_empty (SetOf c) b m e
bin_right Inter EmptySet b m e = right_empty EmptySet b m e
bin_right s Integer b m e = cc
bin_right s k b m e = cc

bin_both : (s : TermSign) (b c : Base) (m : Kind) → bin_kind s (SetOf b) (SetOf c) ≡ Some m → IsBelow (bin_kind s EmptySet EmptySet) m
bin_both Minus b c m e = both_empty b c m e
bin_both Union b c m e = both_empty b c m e
bin_both Inter b c m e = both_empty b c m e
bin_both s b c m e = cc

more_left : (b : Base) (l m : Kind) → more_kind (SetOf b) l ≡ Some m → IsBelow (more_kind EmptySet l) m
more_left b l m e = cc

more_right : (k : Kind) (b : Base) (m : Kind) → more_kind k (SetOf b) ≡ Some m → IsBelow (more_kind k EmptySet) m
more_right Integer b m e = right_empty (SetOf base.Integer) b m e
more_right kind.Truth b m e = right_empty (SetOf base.Truth) b m e
more_right (kind.Elem j) b m e = right_empty (SetOf (base.Elem j)) b m e
more_right k b m e = cc

more_both : (b c : Base) (m : Kind) → more_kind (SetOf b) (SetOf c) ≡ Some m → IsBelow (more_kind EmptySet EmptySet) m
more_both b c m e = cc

neg_below : (k' k m : Kind) → Below k' k → neg_kind k ≡ Some m → IsBelow (neg_kind k') m
neg_below k' k m h e = by_below k' k h (λ z. IsBelow (neg_kind z) m) (m, e, below_self m)
    (λ b ke. let none : neg_kind (SetOf b) ≡ Some m = ap neg_kind (sym ke) ∙ e in cc)

card_below : (k' k m : Kind) → Below k' k → card_kind k ≡ Some m → IsBelow (card_kind k') m
card_below k' k m h e = by_below k' k h (λ z. IsBelow (card_kind z) m) (m, e, below_self m)
    (λ b ke. (m, ap card_kind (sym ke) ∙ e, below_self m))

-- ---- relations

some_kind : (o : Option Kind) → is_some o ≡ true → (m : Kind) × (o ≡ Some m)
some_kind None e = cc
some_kind (Some m) e = (m, refl)

is_some_below : (o : Option Kind) (m : Kind) → IsBelow o m → is_some o ≡ true
is_some_below o m h = ap is_some h.1

sets_related : (k' l' k l : Kind) → Below k' k → Below l' l → is_some (common_set k l) ≡ true → is_some (common_set k' l') ≡ true
sets_related k' l' k l hk hl e =
    let m = some_kind (common_set k l) e in
    is_some_below _ m.0 (two_below common_set left_empty right_empty both_empty k' l' k l m.0 hk hl m.1)

-- of a kind that is not one of sets there is nothing below
same_or_set : (k' k : Kind) (C : Type 0) → Below k' k → (k' ≡ k → C) → ((b : Base) → k ≡ SetOf b → k' ≡ EmptySet → C) → C
same_or_set k' k C h p q = by_below k' k h (λ z. k' ≡ z → C) p (λ b ke e. q b ke e) refl

based : (b : Base) (o : Option Base) → is_base b o ≡ true → is_some o ≡ true
based b None e = cc
based b (Some c) e = refl

pub rel_below : (s : RelSign) (k' l' k l : Kind) → Below k' k → Below l' l → rel_kinds s k l ≡ true → rel_kinds s k' l' ≡ true
rel_below s k' l' k l hk hl e = same_or_set k' k _ hk
    (λ ke. same_or_set l' l _ hl (λ le. ap₂ (rel_kinds s) ke le ∙ e) (λ c lc l0. ap₂ (rel_kinds s) ke l0 ∙ right s k c (ap (rel_kinds s k) (sym lc) ∙ e)))
    (λ b kb k0. same_or_set l' l _ hl (λ le. ap₂ (rel_kinds s) k0 le ∙ left s b l (ap (λ z. rel_kinds s z l) (sym kb) ∙ e))
    (λ c lc l0. ap₂ (rel_kinds s) k0 l0 ∙ both s b c (ap₂ (rel_kinds s) (sym kb) (sym lc) ∙ e)))
  where
    right : (s : RelSign) (k : Kind) (c : Base) → rel_kinds s k (SetOf c) ≡ true → rel_kinds s k EmptySet ≡ true
    right Equal (SetOf b) c e = refl
    right Equal EmptySet c e = refl
    right Member k c e = based c (base_of k) e
    right Subset k c e = sets_related k EmptySet k (SetOf c) (below_self k) tt e
    right Less Integer c e = cc
    right AtMost Integer c e = cc
    right s k c e = cc

    left : (s : RelSign) (b : Base) (l : Kind) → rel_kinds s (SetOf b) l ≡ true → rel_kinds s EmptySet l ≡ true
    left Equal b l e = sets_related EmptySet l (SetOf b) l tt (below_self l) e
    left Member b (SetOf c) e = cc
    left Member b EmptySet e = cc
    left Subset b l e = sets_related EmptySet l (SetOf b) l tt (below_self l) e
    left s b l e = cc

    both : (s : RelSign) (b c : Base) → rel_kinds s (SetOf b) (SetOf c) ≡ true → rel_kinds s EmptySet EmptySet ≡ true
    both Equal b c e = refl
    both Member b c e = cc
    both Subset b c e = refl
    both s b c e = cc

-- ---- trees

one_below : (g : Kind → Option Kind) (o : Option Kind) (k m : Kind) → ((k' : Kind) → Below k' k → IsBelow (g k') m) → IsBelow o k → IsBelow (one_kind g o) m
one_below g o k m h b = subst (λ z. IsBelow (one_kind g z) m) (sym b.1) (h b.0 b.2)

pair_below : (g : Kind → Kind → Option Kind) (o p : Option Kind) (k l m : Kind) → ((k' l' : Kind) → Below k' k → Below l' l → IsBelow (g k' l') m) →
    IsBelow o k → IsBelow p l → IsBelow (both_kinds g o p) m
pair_below g o p k l m h a b = subst (λ z. IsBelow (both_kinds g z p) m) (sym a.1) (subst (λ z. IsBelow (both_kinds g (Some a.0) z) m) (sym b.1) (h a.0 b.0 a.2 b.2))

module _ (sizes : List ℕ) (new old : List (Name × Kind)) (names : ℕ → Name → TermTree) (bounds : ℕ → ℕ → TermTree)
    (R : ℕ → List Kind → List Kind → Type 0)
    (grows : (d : ℕ) (ks ks' : List Kind) (c : Kind) → R d ks ks' → R (d + 1) (c ∷ ks) (c ∷ ks'))
    (names_are : (d : ℕ) (y : Name) (c : Kind) (ks ks' : List Kind) → R d ks ks' → kind_in old y ≡ Some c → IsBelow (kind_of sizes new ks (names d y)) c)
    (bounds_are : (d j : ℕ) (c : Kind) (ks ks' : List Kind) → R d ks ks' → slice_get ks' j ≡ Some c → IsBelow (kind_of sizes new ks (bounds d j)) c) where
  mutual
    pub mapped_kind : (t : TermTree) (d : ℕ) (ks ks' : List Kind) (c : Kind) → R d ks ks' → kind_of sizes old ks' t ≡ Some c → IsBelow (kind_of sizes new ks (mapped_term names bounds d t)) c
    mapped_kind (tree.Var y) d ks ks' c r e = names_are d y c ks ks' r e
    mapped_kind (tree.Bound j) d ks ks' c r e = bounds_are d j c ks ks' r e
    mapped_kind (tree.Num n) d ks ks' c r e = (c, e, below_self c)
    mapped_kind (tree.Truth b) d ks ks' c r e = (c, e, below_self c)
    mapped_kind (tree.Elem s i) d ks ks' c r e = (c, e, below_self c)
    mapped_kind (tree.Elems s) d ks ks' c r e = (c, e, below_self c)
    mapped_kind tree.Truths d ks ks' c r e = (c, e, below_self c)
    mapped_kind (tree.Bin s a b) d ks ks' c r e =
        let p = both_some (bin_kind s) (kind_of sizes old ks' a) (kind_of sizes old ks' b) c e in
        pair_below (bin_kind s) (kind_of sizes new ks (mapped_term names bounds d a)) (kind_of sizes new ks (mapped_term names bounds d b)) p.0 p.1 c
        (λ k l hk hl. two_below (bin_kind s) (bin_left s) (bin_right s) (bin_both s) k l p.0 p.1 c hk hl p.4)
        (mapped_kind a d ks ks' p.0 r p.2) (mapped_kind b d ks ks' p.1 r p.3)
    mapped_kind (tree.Neg a) d ks ks' c r e =
        let p = one_some neg_kind (kind_of sizes old ks' a) c e in
        one_below neg_kind (kind_of sizes new ks (mapped_term names bounds d a)) p.0 c (λ k h. neg_below k p.0 c h p.2) (mapped_kind a d ks ks' p.0 r p.1)
    mapped_kind (tree.Card a) d ks ks' c r e =
        let p = one_some card_kind (kind_of sizes old ks' a) c e in
        one_below card_kind (kind_of sizes new ks (mapped_term names bounds d a)) p.0 c (λ k h. card_below k p.0 c h p.2) (mapped_kind a d ks ks' p.0 r p.1)
    mapped_kind (tree.Listed ts) d ks ks' c r e = mapped_kinds ts d ks ks' c r e
    mapped_kind (tree.Test f) d ks ks' c r e =
        let p = test_some (fits sizes old ks' f) kind.Truth c e in
        (kind.Truth, ap (λ b. if b then Some kind.Truth else None) (mapped_fits f d ks ks' r p.0), subst (Below kind.Truth) p.1 refl)

    pub mapped_kinds : (ts : TermTrees) (d : ℕ) (ks ks' : List Kind) (c : Kind) → R d ks ks' → kind_of_all sizes old ks' ts ≡ Some c → IsBelow (kind_of_all sizes new ks (mapped_terms names bounds d ts)) c
    mapped_kinds tree.End d ks ks' c r e = (c, e, below_self c)
    mapped_kinds (tree.More t ts) d ks ks' c r e =
        let p = both_some more_kind (kind_of sizes old ks' t) (kind_of_all sizes old ks' ts) c e in
        pair_below more_kind (kind_of sizes new ks (mapped_term names bounds d t)) (kind_of_all sizes new ks (mapped_terms names bounds d ts)) p.0 p.1 c
        (λ k l hk hl. two_below more_kind more_left more_right more_both k l p.0 p.1 c hk hl p.4)
        (mapped_kind t d ks ks' p.0 r p.2) (mapped_kinds ts d ks ks' p.1 r p.3)

    pub mapped_fits : (f : FormulaTree) (d : ℕ) (ks ks' : List Kind) → R d ks ks' → fits sizes old ks' f ≡ true → fits sizes new ks (mapped_formula names bounds d f) ≡ true
    mapped_fits tree.True d ks ks' r e = refl
    mapped_fits tree.False d ks ks' r e = refl
    mapped_fits (tree.Rel s a b) d ks ks' r e =
        let p = both_true (rel_kinds s) (kind_of sizes old ks' a) (kind_of sizes old ks' b) e in
        let q = mapped_kind a d ks ks' p.0 r p.2 in
        let w = mapped_kind b d ks ks' p.1 r p.3 in
        ap (λ z. both_fit (rel_kinds s) z (kind_of sizes new ks (mapped_term names bounds d b))) q.1 ∙ ap (λ z. both_fit (rel_kinds s) (Some q.0) z) w.1
        ∙ rel_below s q.0 w.0 p.0 p.1 q.2 w.2 p.4
    mapped_fits (tree.Not f) d ks ks' r e = mapped_fits f d ks ks' r e
    mapped_fits (tree.And f g) d ks ks' r e = let p = and_parts (fits sizes old ks' f) (fits sizes old ks' g) e in and_from _ _ (mapped_fits f d ks ks' r p.0) (mapped_fits g d ks ks' r p.1)
    mapped_fits (tree.Or f g) d ks ks' r e = let p = and_parts (fits sizes old ks' f) (fits sizes old ks' g) e in and_from _ _ (mapped_fits f d ks ks' r p.0) (mapped_fits g d ks ks' r p.1)
    mapped_fits (tree.Implies f g) d ks ks' r e = let p = and_parts (fits sizes old ks' f) (fits sizes old ks' g) e in and_from _ _ (mapped_fits f d ks ks' r p.0) (mapped_fits g d ks ks' r p.1)
    mapped_fits (tree.Iff f g) d ks ks' r e = let p = and_parts (fits sizes old ks' f) (fits sizes old ks' g) e in and_from _ _ (mapped_fits f d ks ks' r p.0) (mapped_fits g d ks ks' r p.1)
    mapped_fits (tree.Every x c f) d ks ks' r e = mapped_fits f (d + 1) (c ∷ ks) (c ∷ ks') (grows d ks ks' c r) e
    mapped_fits (tree.Exist x c f) d ks ks' r e = mapped_fits f (d + 1) (c ∷ ks) (c ∷ ks') (grows d ks ks' c r) e
