-- What membership in a set says is what the set's parts tell.
use Rattle.std.proofs.Common.{◌≡◌, ℕ, ◌<◌, ℤ, pos, Bool, true, false, not, ◌&&◌, ◌||◌, List, [], ◌∷◌, length, filter, Option, Some, None, refl, sym, ap, ◌∙◌, subst, arith, IsTrue, ◌↔◌, ap₂, true≢false}
use Rattle.std.specs.Ordering.{int_eq}
use Rattle.std.specs.Prelude.{nat_lt, is_some}
use Rattle.std.proofs.lemmas.Bool.{eqb-true, eq-eqb}
use Rattle.std.proofs.lemmas.Bool.Decides.{Decides-int_eq}
use Rattle.std.proofs.lemmas.Option.{same_Some}
use Rattle.std.proofs.lemmas.Int.{ints}
use Rattle.cb_term.specs.declared.name.Name.{Name}
use Rattle.cb_term.specs.declared.kind.Kind.{Kind}
use Rattle.cb_term.specs.declared.kind.Kind.TheVariants as kind
use Rattle.cb_term.specs.declared.kind.Base.{Base}
use Rattle.cb_term.specs.declared.kind.Base.TheVariants as base
use Rattle.cb_term.specs.declared.sign.TermSign.TheVariants.{Minus, Range, Union, Inter}
use Rattle.cb_term.specs.declared.sign.RelSign.TheVariants.{Equal, AtMost, Member}
use Rattle.cb_term.specs.declared.value.Value.{Value}
use Rattle.cb_term.specs.declared.value.Value.TheVariants as value
use Rattle.cb_term.specs.Kinds.{same_base}
use Rattle.cb_term.specs.Tree.{TermTree, Bin, Listed, Elems, Truths, TermTrees, End, More, FormulaTree, True, False, Rel, Not, And, Or, Iff}
use Rattle.cb_term.specs.Sets.{IsAscending, has, insert, union}
use Rattle.cb_term.specs.Values.{Look, IsOf, rel, bin, item, bit, same_truth, size_of_set}
use Rattle.cb_term.specs.Holds.{Holds, MeetsAll, IsValue}
use Rattle.cb_term.proofs.Equivalences.{then_iff, not_iff, and_iff}
use Rattle.cb_term.proofs.HoldsLemmas.{IsStable, holds_stable, meets_mono, all_mono}
use Rattle.cb_term.proofs.ValueLemmas.{same_base_tells}
use Rattle.cb_seq.specs.Kinds.{kind_of, kind_of_all, fits, Gives, rel_kinds, common_set, bin_kind, more_kind, base_of, is_base}
use Rattle.cb_seq.proofs.KindLemmas.{both_true, both_some, test_some}
use Rattle.cb_seq.proofs.KindSound.{by_int, by_set, IsSetKind, common_left, common_right, common_kind}
use Rattle.cb_check_sets.specs.Members.{membership, or_one_of}
use Rattle.cb_check_sets.proofs.SetLaws.{up_has, has_insert, has_union, has_filter, range_tells, range_has}
use Rattle.cb_seq.proofs.PremiseLemmas.{valued, int_valued, bin_value, rel_holds}

pub or_truth : (b c : Bool) → (¬ ((¬ IsTrue b) × (¬ IsTrue c))) ↔ IsTrue (b || c)
or_truth true c = ((λ h. refl), (λ e n. n.0 refl))
or_truth false true = ((λ h. refl), (λ e n. n.1 refl))
or_truth false false = ((λ h. absurd (h ((λ e. true≢false (sym e)), (λ e. true≢false (sym e))))), (λ e. absurd (true≢false (sym e))))

and_truth : (b c : Bool) → (IsTrue b × IsTrue c) ↔ IsTrue (b && c)
and_truth true c = ((λ h. h.1), (λ e. (refl, e)))
and_truth false c = ((λ h. absurd (true≢false (sym h.0))), (λ e. absurd (true≢false (sym e))))

not_truth : (b : Bool) → (¬ IsTrue b) ↔ IsTrue (not b)
not_truth true = ((λ h. absurd (h refl)), (λ e. absurd (true≢false (sym e))))
not_truth false = ((λ h. refl), (λ e h. true≢false (sym h)))

pub back : {A B : Type 0} → (A ↔ B) → B ↔ A
back p = (p.1, p.0)

pub same_truths : (b c : Bool) → b ≡ c → IsTrue b ↔ IsTrue c
same_truths b c e = ((λ t. sym e ∙ t), (λ t. e ∙ t))

-- ---- values of terms with kinds

module _ (sizes : List ℕ) where
  pub by_bool : (u : Value) → IsOf sizes kind.Truth u → (P : Value → Type 0) → ((b : Bool) → P (value.Truth b)) → P u
  by_bool (value.Truth x) i P h = h x
  by_bool (value.Int x) i P h = absurd i
  by_bool (value.Elem x) i P h = absurd i
  by_bool (value.Set x) i P h = absurd i

  pub by_elem : (set : ℕ) (u : Value) → IsOf sizes (kind.Elem set) u → (P : Value → Type 0) → ((k : ℕ) → k < size_of_set sizes set → P (value.Elem k)) → P u
  by_elem set (value.Elem x) i P h = h x i
  by_elem set (value.Int x) i P h = absurd i
  by_elem set (value.Truth x) i P h = absurd i
  by_elem set (value.Set x) i P h = absurd i

  pub member_set : (k l : Kind) → rel_kinds Member k l ≡ true → IsSetKind sizes l
  member_set k (kind.SetOf b) e = tt
  member_set k kind.EmptySet e = tt
  member_set k l e = cc

  -- a member's value is in a set exactly where its item is
  abbrev pub AsItem : Value → Type 0
  AsItem u = (xs : List ℤ) → rel Member u (value.Set xs) ≡ has xs (item u)

  pub member_item : (k l : Kind) (u : Value) → rel_kinds Member k l ≡ true → IsOf sizes k u → AsItem u
  member_item kind.Integer l u e i = by_int sizes u i AsItem (λ x xs. refl)
  member_item kind.Truth l u e i = by_bool u i AsItem (λ x xs. refl)
  member_item (kind.Elem set) l u e i = by_elem set u i AsItem (λ x lt xs. refl)
  member_item (kind.SetOf b) (kind.SetOf c) u e i = cc
  member_item (kind.SetOf b) l u e i = cc
  member_item kind.EmptySet (kind.SetOf c) u e i = cc
  member_item kind.EmptySet l u e i = cc

  pub set_asc : (m : Kind) (xs : List ℤ) → IsSetKind sizes m → IsOf sizes m (value.Set xs) → IsAscending xs
  set_asc (kind.SetOf b) xs s i = i.0
  set_asc kind.EmptySet [] s i = tt
  set_asc kind.EmptySet (x ∷ xs) s i = absurd i
  set_asc m xs s i = absurd s

-- ---- listed sets

-- the items of a set of this kind are of the base
abbrev pub HoldsBase : Base → Kind → Type 0
HoldsBase b (kind.SetOf c) = c ≡ b
HoldsBase b kind.EmptySet = Unit {0}
HoldsBase b k = ⊥

is_base_tells : (b : Base) (o : Option Base) → is_base b o ≡ true → o ≡ Some b
is_base_tells b None e = cc
is_base_tells b (Some c) e = ap Some (sym (same_base_tells b c e))

pub is_some_tells : {A : Type 0} (o : Option A) → is_some o ≡ true → (x : A) × (o ≡ Some x)
is_some_tells None e = absurd (true≢false (sym e))
is_some_tells (Some x) e = (x, refl)

pub member_base : (k m : Kind) → rel_kinds Member k m ≡ true → (b : Base) × (base_of k ≡ Some b) × HoldsBase b m
member_base k (kind.SetOf c) e = (c, is_base_tells c (base_of k) e, refl)
member_base k kind.EmptySet e = let p = is_some_tells (base_of k) e in (p.0, p.1, tt)
member_base k kind.Integer e = absurd (true≢false (sym e))
member_base k kind.Truth e = absurd (true≢false (sym e))
member_base k (kind.Elem set) e = absurd (true≢false (sym e))

common_base : (b c : Base) (l m : Kind) → common_set (kind.SetOf c) l ≡ Some m → HoldsBase b m → (c ≡ b) × HoldsBase b l
common_base b c (kind.SetOf d) m e h =
    let p = test_some (same_base c d) (kind.SetOf c) m e in
    let i : c ≡ b = subst (HoldsBase b) (sym p.1) h in
    (i, sym (same_base_tells c d p.0) ∙ i)
common_base b c kind.EmptySet m e h = (subst (HoldsBase b) (sym (same_Some _ _ e)) h, tt)
common_base b c l m e h = cc

pub more_base : (b : Base) (k l m : Kind) → more_kind k l ≡ Some m → HoldsBase b m → (base_of k ≡ Some b) × HoldsBase b l
more_base b kind.Integer l m e h = let p = common_base b base.Integer l m e h in (ap Some p.0, p.1)
more_base b kind.Truth l m e h = let p = common_base b base.Truth l m e h in (ap Some p.0, p.1)
more_base b (kind.Elem set) l m e h = let p = common_base b (base.Elem set) l m e h in (ap Some p.0, p.1)
more_base b k l m e h = cc

int_sym : (x y : ℤ) → int_eq x y ≡ true → int_eq y x ≡ true
int_sym x y e = (Decides-int_eq y x).1 (sym ((Decides-int_eq x y).0 e))

truth_items : (x y : Bool) → IsTrue (same_truth x y) ↔ IsTrue (int_eq (bit y) (bit x))
truth_items true true = ((λ e. refl), (λ e. refl))
truth_items true false = ((λ e. e), (λ e. e))
truth_items false true = ((λ e. e), (λ e. e))
truth_items false false = ((λ e. refl), (λ e. refl))

-- items are equal exactly where their values are
item_equal : (sizes : List ℕ) (b : Base) (k l : Kind) (u w : Value) → base_of k ≡ Some b → base_of l ≡ Some b → IsOf sizes k u → IsOf sizes l w →
    IsTrue (rel Equal u w) ↔ IsTrue (int_eq (item w) (item u))
item_equal sizes b kind.Integer kind.Integer u w e f i j =
    by_int sizes u i (λ z. IsTrue (rel Equal z w) ↔ IsTrue (int_eq (item w) (item z))) (λ x.
    by_int sizes w j (λ z. IsTrue (rel Equal (value.Int x) z) ↔ IsTrue (int_eq (item z) x)) (λ y. (int_sym x y, int_sym y x)))
item_equal sizes b kind.Truth kind.Truth u w e f i j =
    by_bool sizes u i (λ z. IsTrue (rel Equal z w) ↔ IsTrue (int_eq (item w) (item z))) (λ x.
    by_bool sizes w j (λ z. IsTrue (rel Equal (value.Truth x) z) ↔ IsTrue (int_eq (item z) (bit x))) (λ y. truth_items x y))
item_equal sizes b (kind.Elem s) (kind.Elem s') u w e f i j =
    by_elem sizes s u i (λ z. IsTrue (rel Equal z w) ↔ IsTrue (int_eq (item w) (item z))) (λ x _.
    by_elem sizes s' w j (λ z. IsTrue (rel Equal (value.Elem x) z) ↔ IsTrue (int_eq (item z) (pos x))) (λ y _.
    ((λ t. (Decides-int_eq (pos y) (pos x)).1 (ap pos (sym (eqb-true x y t)))), (λ t. eq-eqb x y (pos_same y x ((Decides-int_eq (pos y) (pos x)).0 t))))))
  where
    pos_same : (m n : ℕ) → pos m ≡ pos n → n ≡ m
    pos_same m n h = omega (arith, ints, h)
item_equal sizes b k l u w e f i j = cc

or_more : {F E : Type 0} (d c : Bool) → (E ↔ IsTrue d) → (¬ ((¬ (¬ ((¬ F) × (¬ E)))) × (¬ IsTrue c))) ↔ (¬ ((¬ F) × (¬ IsTrue (d || c))))
or_more true c p = ((λ h n. n.1 refl), (λ r n. n.0 (λ m. m.1 (p.1 refl))))
or_more false c p = ((λ h n. h ((λ g. g (n.0, (λ e. true≢false (sym (p.0 e))))), n.1)), (λ r n. r ((λ f. n.0 (λ m. m.0 f)), n.1)))

or_end : {F : Type 0} → IsStable F → F ↔ (¬ ((¬ F) × (¬ IsTrue false)))
or_end st = ((λ f n. n.0 f), (λ h. st (λ n. h (n, (λ e. true≢false (sym e))))))

pub minus_common : (sizes : List ℕ) (k l m : Kind) → bin_kind Minus k l ≡ Some m → IsSetKind sizes m → common_set k l ≡ Some m
minus_common sizes kind.Integer kind.Integer m e s = absurd (subst (IsSetKind sizes) (sym (same_Some _ _ e)) s)
minus_common sizes k l m e s = e

pub union_common : (k l m : Kind) → bin_kind Union k l ≡ Some m → common_set k l ≡ Some m
union_common k l m e = e

pub inter_common : (k l m : Kind) → bin_kind Inter k l ≡ Some m → common_set k l ≡ Some m
inter_common k l m e = e

pub range_kinds : (k l m : Kind) → bin_kind Range k l ≡ Some m → (k ≡ kind.Integer) × (l ≡ kind.Integer) × (m ≡ kind.SetOf base.Integer)
range_kinds kind.Integer kind.Integer m e = (refl, refl, sym (same_Some _ _ e))
range_kinds k l m e = cc

pub integer_of : (k : Kind) → rel_kinds Member k (kind.SetOf base.Integer) ≡ true → k ≡ kind.Integer
integer_of kind.Integer e = refl
integer_of k e = cc

truth_of : (k : Kind) → rel_kinds Member k (kind.SetOf base.Truth) ≡ true → k ≡ kind.Truth
truth_of kind.Truth e = refl
truth_of k e = cc

elem_of : (k : Kind) (set : ℕ) → rel_kinds Member k (kind.SetOf (base.Elem set)) ≡ true → k ≡ kind.Elem set
elem_of (kind.Elem j) set e = ap kind.Elem (sym (eqb-true set j e))
elem_of k set e = cc

has_bit : (b : Bool) → has (pos 0 ∷ pos 1 ∷ []) (bit b) ≡ true
has_bit true = refl
has_bit false = refl

module _ (sizes : List ℕ) (look : Look) (names : List (Name × Kind)) (gives : Gives sizes look names) where
  abbrev H : FormulaTree → Type 0
  H f = Holds sizes look f []

  -- membership of a term in a set
  pub member_holds : (t s : TermTree) (u : Value) (xs : List ℤ) → AsItem sizes u → IsValue sizes look t [] u → IsValue sizes look s [] (value.Set xs) → IsTrue (has xs (item u)) ↔ H (Rel Member t s)
  member_holds t s u xs ai hu hs = then_iff (same_truths (has xs (item u)) (rel Member u (value.Set xs)) (sym (ai xs))) (rel_holds sizes look [] t s u (value.Set xs) hu hs Member)

  -- the three ways to put two sets together
  module _ (t a b : TermTree) (k ka kb l : Kind) (et : kind_of sizes names [] t ≡ Some k) (ea : kind_of sizes names [] a ≡ Some ka) (eb : kind_of sizes names [] b ≡ Some kb)
      (ec : common_set ka kb ≡ Some l) (em : rel_kinds Member k l ≡ true) where
    two_sets : (C : Type 0) → IsStable C → ((u : Value) (xs ys : List ℤ) → AsItem sizes u → IsValue sizes look t [] u → IsValue sizes look a [] (value.Set xs) → IsValue sizes look b [] (value.Set ys) → C) → C
    two_sets C st go =
        valued sizes look names gives t k et C st (λ u hu ku.
        valued sizes look names gives a ka ea C st (λ v hv iv.
        valued sizes look names gives b kb eb C st (λ w hw iw.
        by_set sizes l (common_kind sizes ka kb l ec) v (common_left sizes ka kb l v ec iv) (λ z. IsValue sizes look a [] z → C) (λ xs _ ha.
        by_set sizes l (common_kind sizes ka kb l ec) w (common_right sizes ka kb l w ec iw) (λ z. IsValue sizes look b [] z → C) (λ ys _ hb.
        go u xs ys (member_item sizes k l u em ku) hu ha hb) hw) hv)))

    union_iff : H (Iff (Or (Rel Member t a) (Rel Member t b)) (Rel Member t (Bin Union a b)))
    union_iff = two_sets _ (holds_stable sizes look (Iff (Or (Rel Member t a) (Rel Member t b)) (Rel Member t (Bin Union a b))) []) (λ u xs ys ai hu ha hb.
        let A = member_holds t a u xs ai hu ha in
        let B = member_holds t b u ys ai hu hb in
        let U = member_holds t (Bin Union a b) u (union xs ys) ai hu (bin_value sizes look [] a b (value.Set xs) (value.Set ys) ha hb Union) in
        then_iff (not_iff (and_iff (not_iff (back A)) (not_iff (back B))))
        (then_iff (or_truth (has xs (item u)) (has ys (item u)))
        (then_iff (same_truths _ _ (sym (has_union xs ys (item u)))) U)))

    inter_iff : H (Iff (And (Rel Member t a) (Rel Member t b)) (Rel Member t (Bin Inter a b)))
    inter_iff = two_sets _ (holds_stable sizes look (Iff (And (Rel Member t a) (Rel Member t b)) (Rel Member t (Bin Inter a b))) []) (λ u xs ys ai hu ha hb.
        let A = member_holds t a u xs ai hu ha in
        let B = member_holds t b u ys ai hu hb in
        let U = member_holds t (Bin Inter a b) u (filter (has ys) xs) ai hu (bin_value sizes look [] a b (value.Set xs) (value.Set ys) ha hb Inter) in
        then_iff (and_iff (back A) (back B))
        (then_iff (and_truth (has xs (item u)) (has ys (item u)))
        (then_iff (same_truths _ _ (sym (has_filter (has ys) xs (item u)))) U)))

    minus_iff : H (Iff (And (Rel Member t a) (Not (Rel Member t b))) (Rel Member t (Bin Minus a b)))
    minus_iff = two_sets _ (holds_stable sizes look (Iff (And (Rel Member t a) (Not (Rel Member t b))) (Rel Member t (Bin Minus a b))) []) (λ u xs ys ai hu ha hb.
        let A = member_holds t a u xs ai hu ha in
        let B = member_holds t b u ys ai hu hb in
        let U = member_holds t (Bin Minus a b) u (filter (λ x. not (has ys x)) xs) ai hu (bin_value sizes look [] a b (value.Set xs) (value.Set ys) ha hb Minus) in
        then_iff (and_iff (back A) (then_iff (not_iff (back B)) (not_truth (has ys (item u)))))
        (then_iff (and_truth (has xs (item u)) (not (has ys (item u))))
        (then_iff (same_truths _ _ (sym (has_filter (λ x. not (has ys x)) xs (item u)))) U)))

  -- a listed set
  listed_iff : (t : TermTree) (u : Value) (b : Base) (k : Kind) → IsValue sizes look t [] u → IsOf sizes k u → base_of k ≡ Some b →
      (es : TermTrees) (m : Kind) → kind_of_all sizes names [] es ≡ Some m → HoldsBase b m → (f : FormulaTree) (C : Type 0) → IsStable C →
      ((xs : List ℤ) → MeetsAll sizes look es [] (λ ys. ys ≡ xs) → (H (or_one_of f t es) ↔ (¬ ((¬ H f) × (¬ IsTrue (has xs (item u)))))) → C) → C
  listed_iff t u b k hu ku bk End m e hb f C st go = go [] refl (or_end (holds_stable sizes look f []))
  listed_iff t u b k hu ku bk (More a es) m e hb f C st go =
      let p = both_some more_kind (kind_of sizes names [] a) (kind_of_all sizes names [] es) m e in
      let r = more_base b p.0 p.1 m p.4 hb in
      valued sizes look names gives a p.0 p.2 C st (λ w hw kw.
      listed_iff t u b k hu ku bk es p.1 p.3 r.1 (Or f (Rel Equal t a)) C st (λ xs hx i.
      let E : IsTrue (int_eq (item w) (item u)) ↔ H (Rel Equal t a) = then_iff (back (item_equal sizes b k p.0 u w bk r.0 ku kw)) (rel_holds sizes look [] t a u w hu hw Equal) in
      let n = or_more {F = H f} {E = H (Rel Equal t a)} (int_eq (item w) (item u)) (has xs (item u)) (back E) in
      go (insert (item w) xs)
      (meets_mono sizes look a [] (λ z. z ≡ w) _ (λ w' e'. all_mono sizes look es [] (λ ys. ys ≡ xs) _ (λ ys e''. ap₂ (λ z zs. insert (item z) zs) e' e'') hx) hw)
      (then_iff i (then_iff n (not_iff (and_iff ((λ x. x), (λ x. x)) (not_iff (same_truths _ _ (sym (has_insert (item w) (item u) xs))))))))))

  range_iff : (t a b : TermTree) → kind_of sizes names [] t ≡ Some kind.Integer → kind_of sizes names [] a ≡ Some kind.Integer → kind_of sizes names [] b ≡ Some kind.Integer →
      H (Iff (And (Rel AtMost a t) (Rel AtMost t b)) (Rel Member t (Bin Range a b)))
  range_iff t a b et ea eb =
      let G : FormulaTree = Iff (And (Rel AtMost a t) (Rel AtMost t b)) (Rel Member t (Bin Range a b)) in
      int_valued sizes look names gives t et (H G) (holds_stable sizes look G []) (λ z hz.
      int_valued sizes look names gives a ea (H G) (holds_stable sizes look G []) (λ x hx.
      int_valued sizes look names gives b eb (H G) (holds_stable sizes look G []) (λ y hy.
      let A = rel_holds sizes look [] a t (value.Int x) (value.Int z) hx hz AtMost in
      let B = rel_holds sizes look [] t b (value.Int z) (value.Int y) hz hy AtMost in
      let M = rel_holds sizes look [] t (Bin Range a b) (value.Int z) (bin Range (value.Int x) (value.Int y)) hz (bin_value sizes look [] a b (value.Int x) (value.Int y) hx hy Range) Member in
      ((λ h. M.0 (range_has x y z (A.1 h.0) (B.1 h.1))), (λ h. let p = range_tells x y z (M.1 h) in (A.0 p.0, B.0 p.1))))))

  member_elems : (t : TermTree) (set : ℕ) → kind_of sizes names [] t ≡ Some (kind.Elem set) → H (Rel Member t (Elems set))
  member_elems t set e = valued sizes look names gives t (kind.Elem set) e (H (Rel Member t (Elems set))) (holds_stable sizes look (Rel Member t (Elems set)) []) (λ v hv kv.
      by_elem sizes set v kv (λ z. IsValue sizes look t [] z → H (Rel Member t (Elems set))) (λ k lt hv.
      (rel_holds sizes look [] t (Elems set) (value.Elem k) _ hv refl Member).0 (up_has (pos 0) (size_of_set sizes set) (pos k) (omega (arith, ints)) (omega (arith, ints, lt)))) hv)

  member_truths : (t : TermTree) → kind_of sizes names [] t ≡ Some kind.Truth → H (Rel Member t Truths)
  member_truths t e = valued sizes look names gives t kind.Truth e (H (Rel Member t Truths)) (holds_stable sizes look (Rel Member t Truths) []) (λ v hv kv.
      by_bool sizes v kv (λ z. IsValue sizes look t [] z → H (Rel Member t Truths)) (λ b hv.
      (rel_holds sizes look [] t Truths (value.Truth b) _ hv refl Member).0 (has_bit b)) hv)

  sure : (t s : TermTree) → H (Rel Member t s) → H (Iff True (Rel Member t s))
  sure t s h = ((λ _. h), (λ _. tt))

  empty_iff : (t : TermTree) (k : Kind) → kind_of sizes names [] t ≡ Some k → H (Iff False (Rel Member t (Listed End)))
  empty_iff t k e = ((λ h. absurd h), (λ h. valued sizes look names gives t k e ⊥ (λ n. n (λ z. z)) (λ v hv kv. none v ((rel_holds sizes look [] t (Listed End) v (value.Set []) hv refl Member).1 h))))
    where
      none : (v : Value) → rel Member v (value.Set []) ≡ true → ⊥
      none (value.Int x) h = cc
      none (value.Truth x) h = cc
      none (value.Elem x) h = cc
      none (value.Set x) h = cc

  list_iff : (t e : TermTree) (es : TermTrees) (k m : Kind) → kind_of sizes names [] t ≡ Some k → kind_of_all sizes names [] (More e es) ≡ Some m → rel_kinds Member k m ≡ true →
      H (Iff (or_one_of (Rel Equal t e) t es) (Rel Member t (Listed (More e es))))
  list_iff t e es k m et es_kind em =
      let G : FormulaTree = Iff (or_one_of (Rel Equal t e) t es) (Rel Member t (Listed (More e es))) in
      let st = holds_stable sizes look G [] in
      let p = both_some more_kind (kind_of sizes names [] e) (kind_of_all sizes names [] es) m es_kind in
      let b = member_base k m em in
      let r = more_base b.0 p.0 p.1 m p.4 b.2 in
      valued sizes look names gives t k et (H G) st (λ u hu ku.
      valued sizes look names gives e p.0 p.2 (H G) st (λ w hw kw.
      listed_iff t u b.0 k hu ku b.1 es p.1 p.3 r.1 (Rel Equal t e) (H G) st (λ xs hx i.
      let E : IsTrue (int_eq (item w) (item u)) ↔ H (Rel Equal t e) = then_iff (back (item_equal sizes b.0 k p.0 u w b.1 r.0 ku kw)) (rel_holds sizes look [] t e u w hu hw Equal) in
      let is_list : IsValue sizes look (Listed (More e es)) [] (value.Set (insert (item w) xs)) =
      meets_mono sizes look e [] (λ z. z ≡ w) _ (λ w' e'. all_mono sizes look es [] (λ ys. ys ≡ xs) _ (λ ys e''. ap₂ (λ z zs. value.Set (insert (item z) zs)) e' e'') hx) hw in
      let M = member_holds t (Listed (More e es)) u (insert (item w) xs) (member_item sizes k m u em ku) hu is_list in
      then_iff i (then_iff (not_iff (and_iff (not_iff (back E)) ((λ x. x), (λ x. x))))
      (then_iff (or_truth (int_eq (item w) (item u)) (has xs (item u))) (then_iff (same_truths _ _ (sym (has_insert (item w) (item u) xs))) M))))))

  pub member_iff : (t s : TermTree) (f : FormulaTree) → membership t s ≡ Some f → fits sizes names [] (Rel Member t s) ≡ true → H (Iff f (Rel Member t s))
  member_iff t s f e fit = by_set_term s f e (both_true (rel_kinds Member) (kind_of sizes names [] t) (kind_of sizes names [] s) fit)
    where
      Kinds : TermTree → Type 0
      Kinds s = (k : Kind) × (m : Kind) × (kind_of sizes names [] t ≡ Some k) × (kind_of sizes names [] s ≡ Some m) × (rel_kinds Member k m ≡ true)

      by_set_term : (s : TermTree) (f : FormulaTree) → membership t s ≡ Some f → Kinds s → H (Iff f (Rel Member t s))
      by_set_term (Bin Union a b) f e p =
          let r = both_some (bin_kind Union) (kind_of sizes names [] a) (kind_of sizes names [] b) p.1 p.3 in
          subst (λ g. H (Iff g (Rel Member t (Bin Union a b)))) (same_Some _ f e) (union_iff t a b p.0 r.0 r.1 p.1 p.2 r.2 r.3 (union_common r.0 r.1 p.1 r.4) p.4)
      by_set_term (Bin Inter a b) f e p =
          let r = both_some (bin_kind Inter) (kind_of sizes names [] a) (kind_of sizes names [] b) p.1 p.3 in
          subst (λ g. H (Iff g (Rel Member t (Bin Inter a b)))) (same_Some _ f e) (inter_iff t a b p.0 r.0 r.1 p.1 p.2 r.2 r.3 (inter_common r.0 r.1 p.1 r.4) p.4)
      by_set_term (Bin Minus a b) f e p =
          let r = both_some (bin_kind Minus) (kind_of sizes names [] a) (kind_of sizes names [] b) p.1 p.3 in
          subst (λ g. H (Iff g (Rel Member t (Bin Minus a b)))) (same_Some _ f e)
          (minus_iff t a b p.0 r.0 r.1 p.1 p.2 r.2 r.3 (minus_common sizes r.0 r.1 p.1 r.4 (member_set sizes p.0 p.1 p.4)) p.4)
      by_set_term (Bin Range a b) f e p =
          let r = both_some (bin_kind Range) (kind_of sizes names [] a) (kind_of sizes names [] b) p.1 p.3 in
          let n = range_kinds r.0 r.1 p.1 r.4 in
          let et : kind_of sizes names [] t ≡ Some kind.Integer = p.2 ∙ ap Some (integer_of p.0 (subst (λ m. rel_kinds Member p.0 m ≡ true) n.2 p.4)) in
          subst (λ g. H (Iff g (Rel Member t (Bin Range a b)))) (same_Some _ f e) (range_iff t a b et (r.2 ∙ ap Some n.0) (r.3 ∙ ap Some n.1))
      by_set_term (Listed End) f e p = subst (λ g. H (Iff g (Rel Member t (Listed End)))) (same_Some _ f e) (empty_iff t p.0 p.2)
      by_set_term (Listed (More a es)) f e p = subst (λ g. H (Iff g (Rel Member t (Listed (More a es))))) (same_Some _ f e) (list_iff t a es p.0 p.1 p.2 p.3 p.4)
      by_set_term (Elems set) f e p =
          let n = test_some (nat_lt set (length sizes)) (kind.SetOf (base.Elem set)) p.1 p.3 in
          let et : kind_of sizes names [] t ≡ Some (kind.Elem set) = p.2 ∙ ap Some (elem_of p.0 set (subst (λ m. rel_kinds Member p.0 m ≡ true) (sym n.1) p.4)) in
          subst (λ g. H (Iff g (Rel Member t (Elems set)))) (same_Some _ f e) (sure t (Elems set) (member_elems t set et))
      by_set_term Truths f e p =
          let et : kind_of sizes names [] t ≡ Some kind.Truth = p.2 ∙ ap Some (truth_of p.0 (subst (λ m. rel_kinds Member p.0 m ≡ true) (sym (same_Some _ _ p.3)) p.4)) in
          subst (λ g. H (Iff g (Rel Member t Truths))) (same_Some _ f e) (sure t Truths (member_truths t et))
      by_set_term s f e p = cc
