-- A value of a term is of the term's kind.
use Rattle.std.proofs.Common.{◌≡◌, ℕ, zero, suc, ◌+◌, ◌<◌, ◌≤◌, ℤ, pos, ◌<ℤ◌, int_lt, Bool, true, false, not, cond, List, [], ◌∷◌, length, filter, Some, refl, sym, ap, ◌∙◌, subst, arith, slice_get, slice_index_or, if◌then◌else◌}
use Rattle.std.specs.Prelude.{nat_lt}
use Rattle.std.specs.Int.{int_div_euclid, int_rem_euclid}
use Rattle.std.specs.Ordering.{int_eq}
use Rattle.std.proofs.lemmas.Bool.{ltb-true, lt-ltb, le-leb}
use Rattle.std.proofs.lemmas.Option.{same_Some}
use Rattle.std.proofs.lemmas.Int.{by_lt_z, ints}
use Rattle.cb_term.specs.declared.name.Name.{Name}
use Rattle.cb_term.specs.declared.kind.Kind.{Kind}
use Rattle.cb_term.specs.declared.kind.Kind.TheVariants as kind
use Rattle.cb_term.specs.declared.kind.Base.{Base}
use Rattle.cb_term.specs.declared.kind.Base.TheVariants as base
use Rattle.cb_term.specs.declared.sign.TermSign.{TermSign}
use Rattle.cb_term.specs.declared.sign.TermSign.TheVariants.{Add, Minus, Mul, Div, Mod, Range, Union, Inter}
use Rattle.cb_term.specs.declared.value.Value.{Value}
use Rattle.cb_term.specs.declared.value.Value.TheVariants as value
use Rattle.cb_term.specs.Tree.{TermTree, Var, Bound, Num, Truth, Elem, Bin, Neg, Card, Listed, Elems, Truths, Test, TermTrees, End, More}
use Rattle.cb_term.specs.Sets.{IsAscending, insert, union, has, upwards, range}
use Rattle.cb_term.specs.Values.{Look, nothing, IsOf, IsItem, AreItems, item, bit, bin, neg, card, size_of_set}
use Rattle.cb_term.specs.Holds.{Meets, MeetsAll}
use Rattle.cb_term.proofs.HoldsLemmas.{IsStable, true_stable, meets_mono, all_mono}
use Rattle.cb_term.proofs.ValueLemmas.{same_base_tells}
use Rattle.cb_term.specs.Kinds.{same_base}
use Rattle.cb_seq.specs.Kinds.{kind_of, kind_of_all, fits, Gives, AreOf, common_set, bin_kind, neg_kind, card_kind, more_kind}
use Rattle.cb_seq.proofs.KindLemmas.{one_some, both_some, test_some}
use Rattle.cb_seq.proofs.SetLemmas.{insert_asc, union_asc, filter_asc, upwards_asc, range_asc}

-- ---- a fact that a value is of a kind is stable

lt_stable : (x y : ℤ) → IsStable (x <ℤ y)
lt_stable x y h = by_lt_z x y (λ l. l) (λ g. absurd (h (λ l. omega (arith, ints, l, g))))

nat_stable : (x y : ℕ) → IsStable (x < y)
nat_stable x y h = ltb-true x y (true_stable (nat_lt x y) (λ n. h (λ l. n (lt-ltb x y l))))

asc_stable : (xs : List ℤ) → IsStable (IsAscending xs)
asc_stable [] h = tt
asc_stable (x ∷ []) h = tt
asc_stable (x ∷ y ∷ ys) h = (lt_stable x y (λ n. h (λ p. n p.0)), asc_stable (y ∷ ys) (λ n. h (λ p. n p.1)))

item_stable : (sizes : List ℕ) (b : Base) (x : ℤ) → IsStable (IsItem sizes b x)
item_stable sizes base.Integer x h = tt
item_stable sizes base.Truth x h = true_stable _ h
item_stable sizes (base.Elem set) x h = true_stable _ h

items_stable : (sizes : List ℕ) (b : Base) (xs : List ℤ) → IsStable (AreItems sizes b xs)
items_stable sizes b [] h = tt
items_stable sizes b (x ∷ xs) h = (item_stable sizes b x (λ n. h (λ p. n p.0)), items_stable sizes b xs (λ n. h (λ p. n p.1)))

pub of_stable : (sizes : List ℕ) (k : Kind) (v : Value) → IsStable (IsOf sizes k v)
of_stable sizes kind.Integer (value.Int x) h = tt
of_stable sizes kind.Truth (value.Truth b) h = tt
of_stable sizes (kind.Elem set) (value.Elem k) h = nat_stable k (size_of_set sizes set) h
of_stable sizes (kind.SetOf b) (value.Set xs) h = (asc_stable xs (λ n. h (λ p. n p.0)), items_stable sizes b xs (λ n. h (λ p. n p.1)))
of_stable sizes kind.EmptySet (value.Set []) h = tt
of_stable sizes k v h = h (λ e. e)

-- ---- kinds of sets

module _ (sizes : List ℕ) where
  empty_is : (b : Base) (v : Value) → IsOf sizes kind.EmptySet v → IsOf sizes (kind.SetOf b) v
  empty_is b (value.Set []) i = (tt, tt)
  empty_is b (value.Set (x ∷ xs)) i = absurd i
  empty_is b (value.Int x) i = absurd i
  empty_is b (value.Truth x) i = absurd i
  empty_is b (value.Elem x) i = absurd i

  -- a value of either kind is one of the common kind
  pub common_left : (k l m : Kind) (v : Value) → common_set k l ≡ Some m → IsOf sizes k v → IsOf sizes m v
  common_left (kind.SetOf b) (kind.SetOf c) m v e i = subst (λ z. IsOf sizes z v) (test_some (same_base b c) (kind.SetOf b) m e).1 i
  common_left (kind.SetOf b) kind.EmptySet m v e i = subst (λ z. IsOf sizes z v) (same_Some _ _ e) i
  common_left kind.EmptySet (kind.SetOf b) m v e i = subst (λ z. IsOf sizes z v) (same_Some _ _ e) (empty_is b v i)
  common_left kind.EmptySet kind.EmptySet m v e i = subst (λ z. IsOf sizes z v) (same_Some _ _ e) i
  common_left k l m v e i = cc

  pub common_right : (k l m : Kind) (v : Value) → common_set k l ≡ Some m → IsOf sizes l v → IsOf sizes m v
  common_right (kind.SetOf b) (kind.SetOf c) m v e i =
      let p = test_some (same_base b c) (kind.SetOf b) m e in
      subst (λ z. IsOf sizes z v) (ap kind.SetOf (sym (same_base_tells b c p.0)) ∙ p.1) i
  common_right (kind.SetOf b) kind.EmptySet m v e i = subst (λ z. IsOf sizes z v) (same_Some _ _ e) (empty_is b v i)
  common_right kind.EmptySet (kind.SetOf b) m v e i = subst (λ z. IsOf sizes z v) (same_Some _ _ e) i
  common_right kind.EmptySet kind.EmptySet m v e i = subst (λ z. IsOf sizes z v) (same_Some _ _ e) i
  common_right k l m v e i = cc

  abbrev pub IsSetKind : Kind → Type 0
  IsSetKind (kind.SetOf b) = Unit {0}
  IsSetKind kind.EmptySet = Unit {0}
  IsSetKind k = ⊥

  pub common_kind : (k l m : Kind) → common_set k l ≡ Some m → IsSetKind m
  common_kind (kind.SetOf b) (kind.SetOf c) m e = subst IsSetKind (test_some (same_base b c) (kind.SetOf b) m e).1 tt
  common_kind (kind.SetOf b) kind.EmptySet m e = subst IsSetKind (same_Some _ _ e) tt
  common_kind kind.EmptySet (kind.SetOf b) m e = subst IsSetKind (same_Some _ _ e) tt
  common_kind kind.EmptySet kind.EmptySet m e = subst IsSetKind (same_Some _ _ e) tt
  common_kind k l m e = cc

  -- ---- values of two kinds, by their form

  pub by_int : (u : Value) → IsOf sizes kind.Integer u → (P : Value → Type 0) → ((x : ℤ) → P (value.Int x)) → P u
  by_int (value.Int x) i P h = h x
  by_int (value.Truth x) i P h = absurd i
  by_int (value.Elem x) i P h = absurd i
  by_int (value.Set x) i P h = absurd i

  pub by_set : (m : Kind) → IsSetKind m → (u : Value) → IsOf sizes m u → (P : Value → Type 0) → ((xs : List ℤ) → IsOf sizes m (value.Set xs) → P (value.Set xs)) → P u
  by_set m s (value.Set xs) i P h = h xs i
  by_set (kind.SetOf b) s (value.Int x) i P h = absurd i
  by_set (kind.SetOf b) s (value.Truth x) i P h = absurd i
  by_set (kind.SetOf b) s (value.Elem x) i P h = absurd i
  by_set kind.EmptySet s (value.Int x) i P h = absurd i
  by_set kind.EmptySet s (value.Truth x) i P h = absurd i
  by_set kind.EmptySet s (value.Elem x) i P h = absurd i
  by_set m s v i P h = absurd s

  by_ints : (u w : Value) → IsOf sizes kind.Integer u → IsOf sizes kind.Integer w → (P : Value → Value → Type 0) → ((x y : ℤ) → P (value.Int x) (value.Int y)) → P u w
  by_ints u w i j P h = by_int u i (λ z. P z w) (λ x. by_int w j (λ z. P (value.Int x) z) (λ y. h x y))

  pub by_sets : (k l m : Kind) → common_set k l ≡ Some m → (u w : Value) → IsOf sizes k u → IsOf sizes l w → (P : Value → Value → Type 0) →
      ((xs ys : List ℤ) → IsOf sizes m (value.Set xs) → IsOf sizes m (value.Set ys) → P (value.Set xs) (value.Set ys)) → P u w
  by_sets k l m e u w i j P h =
      by_set m (common_kind k l m e) u (common_left k l m u e i) (λ z. P z w) (λ xs ixs.
      by_set m (common_kind k l m e) w (common_right k l m w e j) (λ z. P (value.Set xs) z) (λ ys iys. h xs ys ixs iys))

  -- ---- items

  items_insert : (b : Base) (x : ℤ) (ys : List ℤ) → IsItem sizes b x → AreItems sizes b ys → AreItems sizes b (insert x ys)
  items_insert b x [] i a = (i, tt)
  items_insert b x (y ∷ ys) i a = by (int_lt x y) (int_eq x y) (items_insert b x ys i a.1)
    where
      by : (c d : Bool) → AreItems sizes b (insert x ys) → AreItems sizes b (if c then x ∷ (y ∷ ys) else (if d then y ∷ ys else y ∷ insert x ys))
      by true d r = (i, a)
      by false true r = a
      by false false r = (a.0, r)

  items_union : (b : Base) (xs ys : List ℤ) → AreItems sizes b xs → AreItems sizes b ys → AreItems sizes b (union xs ys)
  items_union b [] ys p q = q
  items_union b (x ∷ xs) ys p q = items_insert b x (union xs ys) p.0 (items_union b xs ys p.1 q)

  items_filter : (b : Base) (t : ℤ → Bool) (xs : List ℤ) → AreItems sizes b xs → AreItems sizes b (filter t xs)
  items_filter b t [] a = tt
  items_filter b t (x ∷ xs) a = by (t x) (items_filter b t xs a.1)
    where
      by : (c : Bool) → AreItems sizes b (filter t xs) → AreItems sizes b (cond c (x ∷ filter t xs) (filter t xs))
      by true r = (a.0, r)
      by false r = r

  items_any : (xs : List ℤ) → AreItems sizes base.Integer xs
  items_any [] = tt
  items_any (x ∷ xs) = (tt, items_any xs)

  pub elem_item : (set k : ℕ) → k < size_of_set sizes set → IsItem sizes (base.Elem set) (pos k)
  elem_item set k lt = rw (le-leb 0 k (omega arith), lt-ltb k (size_of_set sizes set) lt) refl

  items_up : (set : ℕ) (x n : ℕ) → x + n ≤ size_of_set sizes set → AreItems sizes (base.Elem set) (upwards (pos x) n)
  items_up set x zero le = tt
  items_up set x (suc n) le =
      (elem_item set x (omega (arith, le)), subst (λ z. AreItems sizes (base.Elem set) (upwards z n)) (ap pos (omega arith)) (items_up set (suc x) n (omega (arith, le))))

  -- ---- each sign

  union_is : (m : Kind) → IsSetKind m → (xs ys : List ℤ) → IsOf sizes m (value.Set xs) → IsOf sizes m (value.Set ys) → IsOf sizes m (value.Set (union xs ys))
  union_is (kind.SetOf b) s xs ys i j = (union_asc xs ys j.0, items_union b xs ys i.1 j.1)
  union_is kind.EmptySet s [] ys i j = j
  union_is kind.EmptySet s (x ∷ xs) ys i j = absurd i
  union_is m s xs ys i j = absurd s

  filter_is : (m : Kind) → IsSetKind m → (t : ℤ → Bool) (xs : List ℤ) → IsOf sizes m (value.Set xs) → IsOf sizes m (value.Set (filter t xs))
  filter_is (kind.SetOf b) s t xs i = (filter_asc t xs i.0, items_filter b t xs i.1)
  filter_is kind.EmptySet s t [] i = tt
  filter_is kind.EmptySet s t (x ∷ xs) i = absurd i
  filter_is m s t xs i = absurd s

  minus_is : (k l m : Kind) (u w : Value) → common_set k l ≡ Some m → IsOf sizes k u → IsOf sizes l w → IsOf sizes m (bin Minus u w)
  minus_is k l m u w e i j = by_sets k l m e u w i j (λ y z. IsOf sizes m (bin Minus y z)) (λ xs ys ix iy. filter_is m (common_kind k l m e) (λ x. not (has ys x)) xs ix)

  of_int : (m : Kind) (x : ℤ) → Some kind.Integer ≡ Some m → IsOf sizes m (value.Int x)
  of_int m x e = subst (λ z. IsOf sizes z (value.Int x)) (same_Some kind.Integer m e) tt

  either_int : (m : Kind) (b : Bool) (x y : ℤ) → Some kind.Integer ≡ Some m → IsOf sizes m (if b then value.Int x else value.Int y)
  either_int m true x y e = of_int m x e
  either_int m false x y e = of_int m y e

  pub bin_is : (s : TermSign) (k l m : Kind) (u w : Value) → bin_kind s k l ≡ Some m → IsOf sizes k u → IsOf sizes l w → IsOf sizes m (bin s u w)
  bin_is Add kind.Integer kind.Integer m u w e i j = by_ints u w i j (λ y z. IsOf sizes m (bin Add y z)) (λ x y. of_int m _ e)
  bin_is Minus kind.Integer kind.Integer m u w e i j = by_ints u w i j (λ y z. IsOf sizes m (bin Minus y z)) (λ x y. of_int m _ e)
  bin_is Mul kind.Integer kind.Integer m u w e i j = by_ints u w i j (λ y z. IsOf sizes m (bin Mul y z)) (λ x y. of_int m _ e)
  bin_is Div kind.Integer kind.Integer m u w e i j = by_ints u w i j (λ y z. IsOf sizes m (bin Div y z)) (λ x y. either_int m (int_lt (pos 0) y) (int_div_euclid x y) (pos 0) e)
  bin_is Mod kind.Integer kind.Integer m u w e i j = by_ints u w i j (λ y z. IsOf sizes m (bin Mod y z)) (λ x y. either_int m (int_lt (pos 0) y) (int_rem_euclid x y) (pos 0) e)
  bin_is Range kind.Integer kind.Integer m u w e i j = by_ints u w i j (λ y z. IsOf sizes m (bin Range y z)) (λ x y.
      subst (λ z. IsOf sizes z (value.Set (range x y))) (same_Some _ _ e) (range_asc x y, items_any (range x y)))
  bin_is Minus k l m u w e i j = minus_is k l m u w e i j
  bin_is Union k l m u w e i j = by_sets k l m e u w i j (λ y z. IsOf sizes m (bin Union y z)) (λ xs ys ix iy. union_is m (common_kind k l m e) xs ys ix iy)
  bin_is Inter k l m u w e i j = by_sets k l m e u w i j (λ y z. IsOf sizes m (bin Inter y z)) (λ xs ys ix iy. filter_is m (common_kind k l m e) (has ys) xs ix)
  bin_is s k l m u w e i j = cc

  neg_is : (k m : Kind) (u : Value) → neg_kind k ≡ Some m → IsOf sizes k u → IsOf sizes m (neg u)
  neg_is kind.Integer m u e i = by_int u i (λ y. IsOf sizes m (neg y)) (λ x. of_int m _ e)
  neg_is k m u e i = cc

  card_is : (k m : Kind) (u : Value) → card_kind k ≡ Some m → IsOf sizes k u → IsOf sizes m (card u)
  card_is (kind.SetOf b) m u e i = by_set (kind.SetOf b) tt u i (λ y. IsOf sizes m (card y)) (λ xs ix. of_int m _ e)
  card_is kind.EmptySet m u e i = by_set kind.EmptySet tt u i (λ y. IsOf sizes m (card y)) (λ xs ix. of_int m _ e)
  card_is k m u e i = cc

  -- the set with one item more
  insert_is : (b : Base) (l m : Kind) (x : ℤ) (xs : List ℤ) → common_set (kind.SetOf b) l ≡ Some m → IsItem sizes b x → IsOf sizes l (value.Set xs) → IsOf sizes m (value.Set (insert x xs))
  insert_is b (kind.SetOf c) m x xs e i j =
      let p = test_some (same_base b c) (kind.SetOf b) m e in
      let a : AreItems sizes b xs = subst (λ z. AreItems sizes z xs) (sym (same_base_tells b c p.0)) j.1 in
      subst (λ z. IsOf sizes z (value.Set (insert x xs))) p.1 (insert_asc x xs j.0, items_insert b x xs i a)
  insert_is b kind.EmptySet m x [] e i j = subst (λ z. IsOf sizes z (value.Set (x ∷ []))) (same_Some _ _ e) (tt, (i, tt))
  insert_is b kind.EmptySet m x (y ∷ ys) e i j = absurd j
  insert_is b l m x xs e i j = cc

  bit_item : (b : Bool) → IsItem sizes base.Truth (bit b)
  bit_item true = refl
  bit_item false = refl

  more_is : (k l m : Kind) (u : Value) (xs : List ℤ) → more_kind k l ≡ Some m → IsOf sizes k u → IsOf sizes l (value.Set xs) → IsOf sizes m (value.Set (insert (item u) xs))
  more_is kind.Integer l m u xs e i j = by_int u i (λ y. IsOf sizes m (value.Set (insert (item y) xs))) (λ x. insert_is base.Integer l m x xs e tt j)
  more_is kind.Truth l m (value.Truth b) xs e i j = insert_is base.Truth l m (bit b) xs e (bit_item b) j
  more_is kind.Truth l m (value.Int b) xs e i j = absurd i
  more_is kind.Truth l m (value.Elem b) xs e i j = absurd i
  more_is kind.Truth l m (value.Set b) xs e i j = absurd i
  more_is (kind.Elem set) l m (value.Elem k) xs e i j = insert_is (base.Elem set) l m (pos k) xs e (elem_item set k i) j
  more_is (kind.Elem set) l m (value.Int b) xs e i j = absurd i
  more_is (kind.Elem set) l m (value.Truth b) xs e i j = absurd i
  more_is (kind.Elem set) l m (value.Set b) xs e i j = absurd i
  more_is k l m u xs e i j = cc

  bound_is : (ks : List Kind) (env : List Value) (j : ℕ) (k : Kind) → slice_get ks j ≡ Some k → AreOf sizes ks env → IsOf sizes k (slice_index_or env j nothing)
  bound_is [] env j k e a = cc
  bound_is (l ∷ ks) [] j k e a = absurd a
  bound_is (l ∷ ks) (v ∷ vs) zero k e a = subst (λ z. IsOf sizes z v) (same_Some l k e) a.0
  bound_is (l ∷ ks) (v ∷ vs) (suc j) k e a = bound_is ks vs j k e a.1

-- ---- the law

module _ (sizes : List ℕ) (look : Look) (names : List (Name × Kind)) (gives : Gives sizes look names) where
  mutual
    pub kind_sound : (t : TermTree) (ks : List Kind) (env : List Value) (k : Kind) → kind_of sizes names ks t ≡ Some k → AreOf sizes ks env → Meets sizes look t env (IsOf sizes k)
    kind_sound (Var x) ks env k e a = gives x k e
    kind_sound (Bound j) ks env k e a = bound_is sizes ks env j k e a
    kind_sound (Num n) ks env k e a = subst (λ z. IsOf sizes z (value.Int n)) (same_Some kind.Integer k e) tt
    kind_sound (Truth b) ks env k e a = subst (λ z. IsOf sizes z (value.Truth b)) (same_Some kind.Truth k e) tt
    kind_sound (Elem s i) ks env k e a = let p = test_some (nat_lt i (size_of_set sizes s)) (kind.Elem s) k e in subst (λ z. IsOf sizes z (value.Elem i)) p.1 (ltb-true i (size_of_set sizes s) p.0)
    kind_sound (Bin s a b) ks env k e r =
        let p = both_some (bin_kind s) (kind_of sizes names ks a) (kind_of sizes names ks b) k e in
        meets_mono sizes look a env (IsOf sizes p.0) _ (λ u iu.
        meets_mono sizes look b env (IsOf sizes p.1) _ (λ w iw. bin_is sizes s p.0 p.1 k u w p.4 iu iw) (kind_sound b ks env p.1 p.3 r)) (kind_sound a ks env p.0 p.2 r)
    kind_sound (Neg a) ks env k e r =
        let p = one_some neg_kind (kind_of sizes names ks a) k e in
        meets_mono sizes look a env (IsOf sizes p.0) _ (λ u iu. neg_is sizes p.0 k u p.2 iu) (kind_sound a ks env p.0 p.1 r)
    kind_sound (Card a) ks env k e r =
        let p = one_some card_kind (kind_of sizes names ks a) k e in
        meets_mono sizes look a env (IsOf sizes p.0) _ (λ u iu. card_is sizes p.0 k u p.2 iu) (kind_sound a ks env p.0 p.1 r)
    kind_sound (Listed ts) ks env k e r = kinds_sound ts ks env k e r
    kind_sound (Elems s) ks env k e r =
        let p = test_some (nat_lt s (length sizes)) (kind.SetOf (base.Elem s)) k e in
        subst (λ z. IsOf sizes z (value.Set (upwards (pos 0) (size_of_set sizes s)))) p.1
        (upwards_asc (pos 0) (size_of_set sizes s), items_up sizes s 0 (size_of_set sizes s) (omega arith))
    kind_sound Truths ks env k e r = subst (λ z. IsOf sizes z (value.Set (pos 0 ∷ pos 1 ∷ []))) (same_Some _ _ e) ((omega (arith, ints), tt), (refl, (refl, tt)))
    kind_sound (Test f) ks env k e r = λ b is. subst (λ z. IsOf sizes z (value.Truth b)) (test_some (fits sizes names ks f) kind.Truth k e).1 tt

    pub kinds_sound : (ts : TermTrees) (ks : List Kind) (env : List Value) (k : Kind) → kind_of_all sizes names ks ts ≡ Some k → AreOf sizes ks env → MeetsAll sizes look ts env (λ xs. IsOf sizes k (value.Set xs))
    kinds_sound End ks env k e r = subst (λ z. IsOf sizes z (value.Set [])) (same_Some kind.EmptySet k e) tt
    kinds_sound (More t ts) ks env k e r =
        let p = both_some more_kind (kind_of sizes names ks t) (kind_of_all sizes names ks ts) k e in
        meets_mono sizes look t env (IsOf sizes p.0) _ (λ u iu.
        all_mono sizes look ts env (λ xs. IsOf sizes p.1 (value.Set xs)) _ (λ xs ix. more_is sizes p.0 p.1 k u xs p.4 iu ix) (kinds_sound ts ks env p.1 p.3 r)) (kind_sound t ks env p.0 p.2 r)
