-- What a sign makes of values of forms is of the form of its term.
use Rattle.std.proofs.Common.{◌≡◌, ◌∙◌, ℕ, zero, suc, ◌+◌, ◌<◌, ◌≤◌, ◌/◌, ◌^◌, ◌==◌, ℤ, pos, negsuc, ◌+ℤ◌, ◌-ℤ◌, ◌*ℤ◌, neg_ℤ, ◌<ℤ◌, ◌≤ℤ◌, int_le, int_lt, Bool, true, false, not, ◌&&◌, ◌||◌, List, [], ◌∷◌, length, filter, Option, Some, None, refl, sym, ap, subst, arith, if◌then◌else◌, true≢false}
use Rattle.std.specs.Int.{int_min, int_max, int_gap, int_div_euclid, int_rem_euclid}
use Rattle.std.specs.Prelude.{nat_le}
use Rattle.std.specs.Ordering.{int_eq}
use Rattle.std.proofs.Math.IntN.{suc_ℤ, suc_ℤ-*ℤ, zero-*ℤ, *ℤ_comm, pos-*ℤ-pos, pos-*ℤ-negsuc}
use Rattle.std.proofs.Math.Nat.{mod-lt, div-mul-le_self}
use Rattle.std.proofs.lemmas.Nat.{le-div}
use Rattle.std.proofs.lemmas.Bool.{and_parts, and_from, eqb-true}
use Rattle.std.proofs.lemmas.Int.{ints, clamps}
use Rattle.cb_term.specs.declared.kind.Base.TheVariants as base
use Rattle.cb_term.specs.declared.sign.TermSign.TheVariants.{Add, Minus, Mul, Div, Mod, Range, Union, Inter}
use Rattle.cb_term.specs.declared.sign.TermSign.{TermSign}
use Rattle.cb_term.specs.declared.value.Value.{Value}
use Rattle.cb_term.specs.declared.value.Value.TheVariants as value
use Rattle.cb_term.specs.Sets.{IsAscending, has, insert, union, upwards, range}
use Rattle.cb_term.specs.Values.{AreItems, IsItem, item, bin, neg, card, size_of_set}
use Rattle.cb_spec.specs.Domains.{Within, AllWithin}
use Rattle.cb_spec.specs.FormValues.{IsOfForm}
use Rattle.cb_spec.specs.Forms as form
use Rattle.cb_spec.specs.Forms.{Form, hull, joined_form, is_some_form, single, left_set, with_both, product, divides, bin_form, neg_form, card_form, IsSmall, literal_or_one}
use Rattle.cb_eval.specs.Evaluation.{fits, kept, is_ascending, given}
use Rattle.cb_eval.specs.ClosedTruth.{kept_set}
use Rattle.cb_eval.specs.TypedIn.{AreSmallSets}
use Rattle.cb_eval.proofs.SetLemmas.{filter_ascends, insert_ascends, union_ascends, upwards_ascends, gap_end, lt_true, eq_tells}
use Rattle.cb_eval.proofs.TellLemmas.{some_is}
use Rattle.cb_eval.proofs.WalkLemmas.{items_within, items_of}

-- ---- products

plus_one : (z : ℤ) → suc_ℤ z ≡ z +ℤ pos 1
plus_one (pos n) = omega (arith, ints)
plus_one (negsuc zero) = refl
plus_one (negsuc (suc n)) = omega (arith, ints)

mul_plus : (x y : ℤ) (k : ℕ) → (x +ℤ pos k) *ℤ y ≡ (x *ℤ y) +ℤ (pos k *ℤ y)
mul_plus x y zero =
    let e : x +ℤ pos 0 ≡ x = omega (arith, ints) in
    ap (λ z. z *ℤ y) e ∙ (omega (arith, ints, zero-*ℤ y))
mul_plus x y (suc k) =
    let e : x +ℤ pos (suc k) ≡ suc_ℤ (x +ℤ pos k) = omega (arith, ints, plus_one (x +ℤ pos k)) in
    let f = ap (λ z. z *ℤ y) e ∙ suc_ℤ-*ℤ (x +ℤ pos k) y in
    omega (arith, ints, f, mul_plus x y k, suc_ℤ-*ℤ (pos k) y)

mul_up : (a x : ℤ) (m : ℕ) → a ≤ℤ x → (a *ℤ pos m) ≤ℤ (x *ℤ pos m)
mul_up a x m l =
    let e : a +ℤ pos (int_gap a x) ≡ x = omega (arith, ints, gap_end a x l) in
    let f = sym (mul_plus a (pos m) (int_gap a x)) ∙ ap (λ z. z *ℤ pos m) e in
    omega (arith, ints, f, pos-*ℤ-pos (int_gap a x) m)

mul_down : (a x : ℤ) (m : ℕ) → a ≤ℤ x → (x *ℤ negsuc m) ≤ℤ (a *ℤ negsuc m)
mul_down a x m l =
    let e : a +ℤ pos (int_gap a x) ≡ x = omega (arith, ints, gap_end a x l) in
    let f = sym (mul_plus a (negsuc m) (int_gap a x)) ∙ ap (λ z. z *ℤ negsuc m) e in
    omega (arith, ints, f, pos-*ℤ-negsuc (int_gap a x) m)

-- a product lies between those with the ends of one factor
mul_between : (a b x y : ℤ) → Within a b x → Within (int_min (a *ℤ y) (b *ℤ y)) (int_max (a *ℤ y) (b *ℤ y)) (x *ℤ y)
mul_between a b x (pos m) w = (omega (arith, ints, clamps, mul_up a x m w.0, mul_up x b m w.1), omega (arith, ints, clamps, mul_up a x m w.0, mul_up x b m w.1))
mul_between a b x (negsuc m) w = (omega (arith, ints, clamps, mul_down a x m w.0, mul_down x b m w.1), omega (arith, ints, clamps, mul_down a x m w.0, mul_down x b m w.1))

turned : (a c d y : ℤ) → Within c d y → Within (int_min (a *ℤ c) (a *ℤ d)) (int_max (a *ℤ c) (a *ℤ d)) (a *ℤ y)
turned a c d y w =
    let h = mul_between c d y a w in
    subst (λ z. Within (int_min (a *ℤ c) (a *ℤ d)) (int_max (a *ℤ c) (a *ℤ d)) z) (*ℤ_comm y a)
    (subst (λ p. Within (int_min p (a *ℤ d)) (int_max p (a *ℤ d)) (y *ℤ a)) (*ℤ_comm c a)
    (subst (λ q. Within (int_min (c *ℤ a) q) (int_max (c *ℤ a) q) (y *ℤ a)) (*ℤ_comm d a) h))

product_within : (sizes : List ℕ) (a b c d x y : ℤ) → Within a b x → Within c d y → IsOfForm sizes (product a b c d) (value.Int (x *ℤ y))
product_within sizes a b c d x y w v =
    let h = mul_between a b x y w in
    let i = turned a c d y v in
    let j = turned b c d y v in
    (omega (arith, ints, clamps, h.0, h.1, i.0, i.1, j.0, j.1), omega (arith, ints, clamps, h.0, h.1, i.0, i.1, j.0, j.1))

-- ---- quotients

div_up : (m n k : ℕ) → 0 < k → m ≤ n → m / k ≤ n / k
div_up m n k p l = le-div (m / k) n k p (omega (arith, l, div-mul-le_self m k))

quotient_within : (a b x : ℤ) (k : ℕ) → 0 < k → pos 0 ≤ℤ a → Within a b x → Within (int_div_euclid a (pos k)) (int_div_euclid b (pos k)) (int_div_euclid x (pos k))
quotient_within (pos a) (pos b) (pos x) k p z w =
    (omega (arith, ints, div_up a x k p (omega (arith, ints, w.0))), omega (arith, ints, div_up x b k p (omega (arith, ints, w.1))))
quotient_within a b x k p z w = absurd (omega (arith, ints, z, w.0, w.1))

rest_within : (x : ℤ) (k : ℕ) → 0 < k → pos 0 ≤ℤ x → Within (pos 0) (pos k -ℤ pos 1) (int_rem_euclid x (pos k))
rest_within (pos x) k p z = (omega (arith, ints), omega (arith, ints, mod-lt x p))
rest_within (negsuc x) k p z = absurd (omega (arith, ints, z))

-- ---- sets of a form

abbrev is_set : Form → Bool
is_set (form.Numbers lo hi) = true
is_set form.TruthSet = true
is_set (form.Elements k) = true
is_set form.Empty = true
is_set f = false

module _ (sizes : List ℕ) where
  abbrev ItemOf : Form → ℤ → Type 0
  ItemOf (form.Numbers lo hi) x = Within lo hi x
  ItemOf form.TruthSet x = IsItem sizes base.Truth x
  ItemOf (form.Elements k) x = IsItem sizes (base.Elem k) x
  ItemOf f x = ⊥

  abbrev ItemsOf : Form → List ℤ → Type 0
  ItemsOf f [] = Unit {0}
  ItemsOf f (x ∷ xs) = ItemOf f x × ItemsOf f xs

  numbers_back : (lo hi : ℤ) (xs : List ℤ) → ItemsOf (form.Numbers lo hi) xs → AllWithin lo hi xs
  numbers_back lo hi [] w = tt
  numbers_back lo hi (x ∷ xs) w = (w.0, numbers_back lo hi xs w.1)

  numbers_on : (lo hi : ℤ) (xs : List ℤ) → AllWithin lo hi xs → ItemsOf (form.Numbers lo hi) xs
  numbers_on lo hi [] w = tt
  numbers_on lo hi (x ∷ xs) w = (w.0, numbers_on lo hi xs w.1)

  truths_back : (xs : List ℤ) → ItemsOf form.TruthSet xs → AreItems sizes base.Truth xs
  truths_back [] w = tt
  truths_back (x ∷ xs) w = (w.0, truths_back xs w.1)

  truths_on : (xs : List ℤ) → AreItems sizes base.Truth xs → ItemsOf form.TruthSet xs
  truths_on [] w = tt
  truths_on (x ∷ xs) w = (w.0, truths_on xs w.1)

  elements_back : (k : ℕ) (xs : List ℤ) → ItemsOf (form.Elements k) xs → AreItems sizes (base.Elem k) xs
  elements_back k [] w = tt
  elements_back k (x ∷ xs) w = (w.0, elements_back k xs w.1)

  elements_on : (k : ℕ) (xs : List ℤ) → AreItems sizes (base.Elem k) xs → ItemsOf (form.Elements k) xs
  elements_on k [] w = tt
  elements_on k (x ∷ xs) w = (w.0, elements_on k xs w.1)

  -- a value of a set's form is a set
  record IsSetOf (f : Form) (v : Value) : Type 0 where
    pub items : List ℤ
    pub is : v ≡ value.Set items
    pub up : IsAscending items
    pub all : ItemsOf f items

  set_tells : (f : Form) (v : Value) → is_set f ≡ true → IsOfForm sizes f v → IsSetOf f v
  set_tells (form.Numbers lo hi) (value.Set xs) e o = record { items = xs; is = refl; up = o.0; all = numbers_on lo hi xs o.1 }
  set_tells form.TruthSet (value.Set xs) e o = record { items = xs; is = refl; up = o.0; all = truths_on xs o.1 }
  set_tells (form.Elements k) (value.Set xs) e o = record { items = xs; is = refl; up = o.0; all = elements_on k xs o.1 }
  set_tells form.Empty (value.Set []) e o = record { items = []; is = refl; up = tt; all = tt }
  set_tells (form.Number lo hi) v e o = absurd (true≢false (sym e))
  set_tells form.Truth v e o = absurd (true≢false (sym e))
  set_tells (form.Element k) v e o = absurd (true≢false (sym e))
  set_tells f v e o = absurd o

  of_set : (f : Form) (xs : List ℤ) → is_set f ≡ true → IsAscending xs → ItemsOf f xs → IsOfForm sizes f (value.Set xs)
  of_set (form.Numbers lo hi) xs e up all = (up, numbers_back lo hi xs all)
  of_set form.TruthSet xs e up all = (up, truths_back xs all)
  of_set (form.Elements k) xs e up all = (up, elements_back k xs all)
  of_set form.Empty [] e up all = tt
  of_set form.Empty (x ∷ xs) e up all = absurd all.0
  of_set (form.Number lo hi) xs e up all = absurd (true≢false (sym e))
  of_set form.Truth xs e up all = absurd (true≢false (sym e))
  of_set (form.Element k) xs e up all = absurd (true≢false (sym e))

  -- ---- what is joined

  record Joins (a b f : Form) : Type 0 where
    pub left_is : is_set a ≡ true
    pub right_is : is_set b ≡ true
    pub whole_is : is_set f ≡ true
    pub left : (x : ℤ) → ItemOf a x → ItemOf f x
    pub right : (x : ℤ) → ItemOf b x → ItemOf f x
    pub small : IsSmall f → IsSmall b

  hull_joins : (lo hi lo' hi' : ℤ) → Joins (form.Numbers lo hi) (form.Numbers lo' hi') (hull lo hi lo' hi')
  hull_joins lo hi lo' hi' = by (int_lt hi lo) refl (int_lt hi' lo') refl
    where
      by : (b : Bool) → int_lt hi lo ≡ b → (c : Bool) → int_lt hi' lo' ≡ c → Joins (form.Numbers lo hi) (form.Numbers lo' hi')
          (if b then form.Numbers lo' hi' else (if c then form.Numbers lo hi else form.Numbers (int_min lo lo') (int_max hi hi')))
      by true e c f = record { left_is = refl; right_is = refl; whole_is = refl; left = λ x w. absurd (omega (arith, ints, e, w.0, w.1)); right = λ x w. w; small = λ s. s }
      by false e true f = record { left_is = refl; right_is = refl; whole_is = refl; left = λ x w. w; right = λ x w. absurd (omega (arith, ints, f, w.0, w.1)); small = λ s. omega (arith, ints, f) }
      by false e false f = record {
        left_is = refl;
        right_is = refl;
        whole_is = refl;
        left = λ x w. (omega (arith, ints, clamps, w.0), omega (arith, ints, clamps, w.1));
        right = λ x w. (omega (arith, ints, clamps, w.0), omega (arith, ints, clamps, w.1));
        small = λ s. omega (arith, ints, clamps, s);
      }

  plain : (a b f : Form) → is_set a ≡ true → is_set b ≡ true → is_set f ≡ true → ((x : ℤ) → ItemOf a x → ItemOf f x) → ((x : ℤ) → ItemOf b x → ItemOf f x) → (IsSmall f → IsSmall b) → Joins a b f
  plain a b f p q r left right small = record { left_is = p; right_is = q; whole_is = r; left = left; right = right; small = small }

  joins : (a b f : Form) → joined_form a b ≡ Some f → Joins a b f
  joins (form.Numbers lo hi) (form.Numbers lo' hi') f e = subst (Joins (form.Numbers lo hi) (form.Numbers lo' hi')) (some_is _ f e) (hull_joins lo hi lo' hi')
  joins form.TruthSet form.TruthSet f e = subst (Joins form.TruthSet form.TruthSet) (some_is _ f e) (plain _ _ _ refl refl refl (λ x w. w) (λ x w. w) (λ s. tt))
  joins (form.Elements j) (form.Elements k) f e = by (j == k) refl e
    where
      by : (b : Bool) → (j == k) ≡ b → (if b then Some (form.Elements j) else None) ≡ Some f → Joins (form.Elements j) (form.Elements k) f
      by true t e = subst (Joins (form.Elements j) (form.Elements k)) (some_is _ f e) (plain _ _ _ refl refl refl (λ x w. w) (λ x w. subst (λ n. IsItem sizes (base.Elem n) x) (sym (eqb-true j k t)) w) (λ s. tt))
      by false t e = cc
  joins form.Empty form.Empty f e = subst (Joins form.Empty form.Empty) (some_is _ f e) (plain _ _ _ refl refl refl (λ x w. w) (λ x w. w) (λ s. tt))
  joins form.Empty (form.Numbers lo hi) f e = subst (Joins form.Empty (form.Numbers lo hi)) (some_is _ f e) (plain _ _ _ refl refl refl (λ x w. absurd w) (λ x w. w) (λ s. s))
  joins form.Empty form.TruthSet f e = subst (Joins form.Empty form.TruthSet) (some_is _ f e) (plain _ _ _ refl refl refl (λ x w. absurd w) (λ x w. w) (λ s. tt))
  joins form.Empty (form.Elements k) f e = subst (Joins form.Empty (form.Elements k)) (some_is _ f e) (plain _ _ _ refl refl refl (λ x w. absurd w) (λ x w. w) (λ s. tt))
  joins (form.Numbers lo hi) form.Empty f e = subst (Joins (form.Numbers lo hi) form.Empty) (some_is _ f e) (plain _ _ _ refl refl refl (λ x w. w) (λ x w. absurd w) (λ s. tt))
  joins form.TruthSet form.Empty f e = subst (Joins form.TruthSet form.Empty) (some_is _ f e) (plain _ _ _ refl refl refl (λ x w. w) (λ x w. absurd w) (λ s. tt))
  joins (form.Elements k) form.Empty f e = subst (Joins (form.Elements k) form.Empty) (some_is _ f e) (plain _ _ _ refl refl refl (λ x w. w) (λ x w. absurd w) (λ s. tt))
  joins a b f e = cc

  items_more : (a f : Form) (xs : List ℤ) → ((x : ℤ) → ItemOf a x → ItemOf f x) → ItemsOf a xs → ItemsOf f xs
  items_more a f [] h w = tt
  items_more a f (x ∷ xs) h w = (h x w.0, items_more a f xs h w.1)

  items_insert : (f : Form) (x : ℤ) (ys : List ℤ) → ItemOf f x → ItemsOf f ys → ItemsOf f (insert x ys)
  items_insert f x [] o w = (o, tt)
  items_insert f x (y ∷ ys) o w =
      let rest : ItemsOf f (insert x ys) = items_insert f x ys o w.1 in
      elim (int_lt x y) as (λ b. ItemsOf f (if b then x ∷ (y ∷ ys) else (if int_eq x y then y ∷ ys else y ∷ insert x ys))) [
        | true ↦ (o, w)
        | false ↦ elim (int_eq x y) as (λ b. ItemsOf f (if b then y ∷ ys else y ∷ insert x ys)) [ true ↦ w | false ↦ (w.0, rest) ]
      ]

  items_union : (f : Form) (xs ys : List ℤ) → ItemsOf f xs → ItemsOf f ys → ItemsOf f (union xs ys)
  items_union f [] ys v w = w
  items_union f (x ∷ xs) ys v w = items_insert f x (union xs ys) v.0 (items_union f xs ys v.1 w)

  items_filter : (f : Form) (p : ℤ → Bool) (xs : List ℤ) → ItemsOf f xs → ItemsOf f (filter p xs)
  items_filter f p [] w = tt
  items_filter f p (x ∷ xs) w =
      let rest : ItemsOf f (filter p xs) = items_filter f p xs w.1 in
      elim (p x) as (λ b. ItemsOf f (if b then x ∷ filter p xs else filter p xs)) [ true ↦ (w.0, rest) | false ↦ rest ]

  upwards_within : (lo hi x : ℤ) (n : ℕ) → lo ≤ℤ x → (x +ℤ pos n) ≤ℤ (hi +ℤ pos 1) → AllWithin lo hi (upwards x n)
  upwards_within lo hi x zero l m = tt
  upwards_within lo hi x (suc n) l m = ((l, omega (arith, ints, m)), upwards_within lo hi (x +ℤ pos 1) n (omega (arith, ints, l)) (omega (arith, ints, m)))

  range_of : (lo hi x y : ℤ) → lo ≤ℤ x → y ≤ℤ hi → IsOfForm sizes (form.Numbers lo hi) (value.Set (range x y))
  range_of lo hi x y l m = by (int_le x y) refl
    where
      by : (b : Bool) → int_le x y ≡ b → IsOfForm sizes (form.Numbers lo hi) (value.Set (if b then upwards x (int_gap x y + 1) else []))
      by true e = (upwards_ascends x _, upwards_within lo hi x _ l (omega (arith, ints, m, gap_end x y (omega (arith, ints, e)))))
      by false e = (tt, tt)

  pub elements_of : (set : ℕ) → IsOfForm sizes (form.Elements set) (value.Set (upwards (pos 0) (size_of_set sizes set)))
  elements_of set =
      (upwards_ascends (pos 0) _, items_of sizes set (pos (size_of_set sizes set) -ℤ pos 1) _ (omega (arith, ints)) (upwards_within (pos 0) _ (pos 0) _ (omega (arith, ints)) (omega (arith, ints))))

  -- ---- signs

  -- what has the left operand's items, where both operands are sets of one kind
  record Lefts (a b f : Form) : Type 0 where
    pub left_is : is_set a ≡ true
    pub right_is : is_set b ≡ true
    pub whole_is : is_set f ≡ true
    pub keeps : (x : ℤ) → ItemOf a x → ItemOf f x

  plain_left : (a b f : Form) → (if is_some_form (joined_form a b) then Some a else None) ≡ Some f → Lefts a b f
  plain_left a b f e = by (joined_form a b) refl e
    where
      by : (o : Option Form) → joined_form a b ≡ o → (if is_some_form o then Some a else None) ≡ Some f → Lefts a b f
      by None at e = cc
      by (Some g) at e =
          let j = joins a b g at in
          let same : a ≡ f = some_is a f e in
          record { left_is = j.left_is; right_is = j.right_is; whole_is = subst (λ z. is_set z ≡ true) same j.left_is; keeps = λ x o. subst (λ z. ItemOf z x) same o }

  lefts : (a b f : Form) → left_set a b ≡ Some f → Lefts a b f
  lefts form.Empty (form.Numbers lo hi) f e = subst (Lefts form.Empty (form.Numbers lo hi)) (some_is _ f e) (record { left_is = refl; right_is = refl; whole_is = refl; keeps = λ x o. absurd o })
  lefts form.Empty form.TruthSet f e = subst (Lefts form.Empty form.TruthSet) (some_is _ f e) (record { left_is = refl; right_is = refl; whole_is = refl; keeps = λ x o. absurd o })
  lefts form.Empty (form.Elements k) f e = subst (Lefts form.Empty (form.Elements k)) (some_is _ f e) (record { left_is = refl; right_is = refl; whole_is = refl; keeps = λ x o. absurd o })
  lefts a b f e = plain_left a b f e

  union_of : (a b f : Form) (u w : Value) → joined_form a b ≡ Some f → IsOfForm sizes a u → IsOfForm sizes b w → IsOfForm sizes f (bin Union u w)
  union_of a b f u w e o p =
      let j = joins a b f e in
      let s = set_tells a u j.left_is o in
      let t = set_tells b w j.right_is p in
      let here : IsOfForm sizes f (bin Union (value.Set s.items) (value.Set t.items)) =
      of_set f (union s.items t.items) j.whole_is (union_ascends s.items t.items t.up) (items_union f s.items t.items (items_more a f s.items j.left s.all) (items_more b f t.items j.right t.all)) in
      subst (λ z. IsOfForm sizes f (bin Union z w)) (sym s.is) (subst (λ z. IsOfForm sizes f (bin Union (value.Set s.items) z)) (sym t.is) here)

  left_of : (sign : TermSign) (part : List ℤ → ℤ → Bool) → ((xs ys : List ℤ) → bin sign (value.Set xs) (value.Set ys) ≡ value.Set (filter (part ys) xs)) →
      (a b f : Form) (u w : Value) → left_set a b ≡ Some f → IsOfForm sizes a u → IsOfForm sizes b w → IsOfForm sizes f (bin sign u w)
  left_of sign part is a b f u w e o p =
      let j = lefts a b f e in
      let s = set_tells a u j.left_is o in
      let t = set_tells b w j.right_is p in
      let here : IsOfForm sizes f (bin sign (value.Set s.items) (value.Set t.items)) =
      subst (IsOfForm sizes f) (sym (is s.items t.items))
      (of_set f (filter (part t.items) s.items) j.whole_is (filter_ascends (part t.items) s.items s.up) (items_filter f (part t.items) s.items (items_more a f s.items j.keeps s.all))) in
      subst (λ z. IsOfForm sizes f (bin sign z w)) (sym s.is) (subst (λ z. IsOfForm sizes f (bin sign (value.Set s.items) z)) (sym t.is) here)

  sum_of : (l : Option ℤ) (a b f : Form) (u w : Value) → bin_form Add l a b ≡ Some f → IsOfForm sizes a u → IsOfForm sizes b w → IsOfForm sizes f (bin Add u w)
  sum_of l (form.Number a b) (form.Number c d) f (value.Int x) (value.Int y) e o p =
      subst (λ z. IsOfForm sizes z (value.Int (x +ℤ y))) (some_is _ f e) (omega (arith, ints, o.0, p.0), omega (arith, ints, o.1, p.1))
  sum_of l (form.Number a b) (form.Number c d) f (value.Int x) w e o p = absurd p
  sum_of l (form.Number a b) (form.Number c d) f u w e o p = absurd o
  sum_of l a b f u w e o p = cc

  minus_of : (l : Option ℤ) (a b f : Form) (u w : Value) → bin_form Minus l a b ≡ Some f → IsOfForm sizes a u → IsOfForm sizes b w → IsOfForm sizes f (bin Minus u w)
  minus_of l (form.Number a b) (form.Number c d) f (value.Int x) (value.Int y) e o p =
      subst (λ z. IsOfForm sizes z (value.Int (x -ℤ y))) (some_is _ f e) (omega (arith, ints, o.0, p.1), omega (arith, ints, o.1, p.0))
  minus_of l (form.Number a b) (form.Number c d) f (value.Int x) w e o p = absurd p
  minus_of l (form.Number a b) (form.Number c d) f u w e o p = absurd o
  minus_of l a b f u w e o p = left_of Minus (λ ys x. not (has ys x)) (λ xs ys. refl) a b f u w e o p

  product_of : (l : Option ℤ) (a b f : Form) (u w : Value) → bin_form Mul l a b ≡ Some f → IsOfForm sizes a u → IsOfForm sizes b w → IsOfForm sizes f (bin Mul u w)
  product_of l (form.Number a b) (form.Number c d) f (value.Int x) (value.Int y) e o p =
      subst (λ z. IsOfForm sizes z (value.Int (x *ℤ y))) (some_is _ f e) (product_within sizes a b c d x y o p)
  product_of l (form.Number a b) (form.Number c d) f (value.Int x) w e o p = absurd p
  product_of l (form.Number a b) (form.Number c d) f u w e o p = absurd o
  product_of l a b f u w e o p = cc

  -- what a divisor that is allowed tells
  divides_tells : (lo : ℤ) (l : Option ℤ) (f g : Form) → (if divides lo l then Some g else None) ≡ Some f → (R : Type 0) →
      ((k : ℕ) → 0 < k → pos 0 ≤ℤ lo → l ≡ Some (pos k) → g ≡ f → R) → R
  divides_tells lo None f g e R found = cc
  divides_tells lo (Some d) f g e R found = by (int_lt (pos 0) d && int_le (pos 0) lo) refl e
    where
      positive : (d : ℤ) → int_lt (pos 0) d ≡ true → (k : ℕ) × ((0 < k) × (d ≡ pos k))
      positive (pos k) t = (k, (omega (arith, ints, t), refl))
      positive (negsuc k) t = absurd (omega (arith, ints, t))

      by : (b : Bool) → (int_lt (pos 0) d && int_le (pos 0) lo) ≡ b → (if b then Some g else None) ≡ Some f → R
      by true t e =
          let p = and_parts (int_lt (pos 0) d) (int_le (pos 0) lo) t in
          let q = positive d p.0 in
          found q.0 q.1.0 (omega (arith, ints, p.1)) (ap Some q.1.1) (some_is g f e)
      by false t e = cc

  by_positive : (k : ℕ) (v w : Value) → 0 < k → (if int_lt (pos 0) (pos k) then v else w) ≡ v
  by_positive k v w p = ap (λ b. if b then v else w) (lt_true (pos 0) (pos k) (omega (arith, ints, p)))

  quotient_of : (l : Option ℤ) (a b f : Form) (u w : Value) → ((d : ℤ) → l ≡ Some d → w ≡ value.Int d) → bin_form Div l a b ≡ Some f → IsOfForm sizes a u → IsOfForm sizes f (bin Div u w)
  quotient_of l (form.Number a b) (form.Number c d) f (value.Int x) w lit e o =
      divides_tells a l f _ e (IsOfForm sizes f (bin Div (value.Int x) w)) (λ k p z is same.
      let number : literal_or_one l ≡ pos k = ap literal_or_one is in
      let within : IsOfForm sizes (form.Number (int_div_euclid a (literal_or_one l)) (int_div_euclid b (literal_or_one l))) (value.Int (int_div_euclid x (pos k))) =
      subst (λ n. IsOfForm sizes (form.Number (int_div_euclid a n) (int_div_euclid b n)) (value.Int (int_div_euclid x (pos k)))) (sym number) (quotient_within a b x k p z o) in
      subst (λ v. IsOfForm sizes f (bin Div (value.Int x) v)) (sym (lit (pos k) is))
      (subst (IsOfForm sizes f) (sym (by_positive k _ _ p)) (subst (λ g. IsOfForm sizes g (value.Int (int_div_euclid x (pos k)))) same within)))
  quotient_of l (form.Number a b) (form.Number c d) f u w lit e o = absurd o
  quotient_of l a b f u w lit e o = cc

  rest_of : (l : Option ℤ) (a b f : Form) (u w : Value) → ((d : ℤ) → l ≡ Some d → w ≡ value.Int d) → bin_form Mod l a b ≡ Some f → IsOfForm sizes a u → IsOfForm sizes f (bin Mod u w)
  rest_of l (form.Number a b) (form.Number c d) f (value.Int x) w lit e o =
      divides_tells a l f _ e (IsOfForm sizes f (bin Mod (value.Int x) w)) (λ k p z is same.
      let number : literal_or_one l ≡ pos k = ap literal_or_one is in
      let within : IsOfForm sizes (form.Number (pos 0) (literal_or_one l -ℤ pos 1)) (value.Int (int_rem_euclid x (pos k))) =
      subst (λ n. IsOfForm sizes (form.Number (pos 0) (n -ℤ pos 1)) (value.Int (int_rem_euclid x (pos k)))) (sym number) (rest_within x k p (omega (arith, ints, z, o.0))) in
      subst (λ v. IsOfForm sizes f (bin Mod (value.Int x) v)) (sym (lit (pos k) is))
      (subst (IsOfForm sizes f) (sym (by_positive k _ _ p)) (subst (λ g. IsOfForm sizes g (value.Int (int_rem_euclid x (pos k)))) same within)))
  rest_of l (form.Number a b) (form.Number c d) f u w lit e o = absurd o
  rest_of l a b f u w lit e o = cc

  range_term : (l : Option ℤ) (a b f : Form) (u w : Value) → bin_form Range l a b ≡ Some f → IsOfForm sizes a u → IsOfForm sizes b w → IsOfForm sizes f (bin Range u w)
  range_term l (form.Number a b) (form.Number c d) f (value.Int x) (value.Int y) e o p =
      subst (λ z. IsOfForm sizes z (value.Set (range x y))) (some_is _ f e) (range_of a d x y o.0 p.1)
  range_term l (form.Number a b) (form.Number c d) f (value.Int x) w e o p = absurd p
  range_term l (form.Number a b) (form.Number c d) f u w e o p = absurd o
  range_term l a b f u w e o p = cc

  -- what a sign makes of values of the forms. `l` is the right operand's number, if it is a literal
  pub bin_of : (s : TermSign) (l : Option ℤ) (a b f : Form) (u w : Value) → ((d : ℤ) → l ≡ Some d → w ≡ value.Int d) →
      bin_form s l a b ≡ Some f → IsOfForm sizes a u → IsOfForm sizes b w → IsOfForm sizes f (bin s u w)
  bin_of Add l a b f u w lit e o p = sum_of l a b f u w e o p
  bin_of Minus l a b f u w lit e o p = minus_of l a b f u w e o p
  bin_of Mul l a b f u w lit e o p = product_of l a b f u w e o p
  bin_of Div l a b f u w lit e o p = quotient_of l a b f u w lit e o
  bin_of Mod l a b f u w lit e o p = rest_of l a b f u w lit e o
  bin_of Range l a b f u w lit e o p = range_term l a b f u w e o p
  bin_of Union l a b f u w lit e o p = union_of a b f u w e o p
  bin_of Inter l a b f u w lit e o p = left_of Inter (λ ys. has ys) (λ xs ys. refl) a b f u w e o p

  pub neg_of : (a f : Form) (u : Value) → neg_form a ≡ Some f → IsOfForm sizes a u → IsOfForm sizes f (neg u)
  neg_of (form.Number a b) f (value.Int x) e o = subst (λ z. IsOfForm sizes z (value.Int (neg_ℤ x))) (some_is _ f e) (omega (arith, ints, o.1), omega (arith, ints, o.0))
  neg_of (form.Number a b) f u e o = absurd o
  neg_of a f u e o = cc

  -- ---- what is small is kept

  longest : (lo hi x : ℤ) (xs : List ℤ) → IsAscending (x ∷ xs) → AllWithin lo hi (x ∷ xs) → (x +ℤ pos (suc (length xs))) ≤ℤ (hi +ℤ pos 1)
  longest lo hi x [] up w = omega (arith, ints, w.0.1)
  longest lo hi x (y ∷ ys) up w = omega (arith, ints, up.0, longest lo hi y ys up.1 w.1)

  within_length : (lo hi : ℤ) (xs : List ℤ) → IsAscending xs → AllWithin lo hi xs → (hi -ℤ lo) <ℤ pos 256 → length xs ≤ 256
  within_length lo hi [] up w l = omega arith
  within_length lo hi (x ∷ xs) up w l = omega (arith, ints, l, w.0.0, longest lo hi x xs up w)

  truths_within : (xs : List ℤ) → AreItems sizes base.Truth xs → AllWithin (pos 0) (pos 1) xs
  truths_within [] w = tt
  truths_within (x ∷ xs) w = (by (int_eq x (pos 0)) refl (int_eq x (pos 1)) refl w.0, truths_within xs w.1)
    where
      by : (b : Bool) → int_eq x (pos 0) ≡ b → (c : Bool) → int_eq x (pos 1) ≡ c → (b || c) ≡ true → Within (pos 0) (pos 1) x
      by true e c f t = (omega (arith, ints, eq_tells x (pos 0) e), omega (arith, ints, eq_tells x (pos 0) e))
      by false e true f t = (omega (arith, ints, eq_tells x (pos 1) f), omega (arith, ints, eq_tells x (pos 1) f))
      by false e false f t = absurd (true≢false (sym t))

  module _ (few : AreSmallSets sizes) where
    pub set_length : (f : Form) (xs : List ℤ) → IsSmall f → IsOfForm sizes f (value.Set xs) → length xs ≤ 256
    set_length (form.Numbers lo hi) xs s o = within_length lo hi xs o.0 o.1 s
    set_length form.TruthSet xs s o = within_length (pos 0) (pos 1) xs o.0 (truths_within xs o.1) (omega (arith, ints))
    set_length (form.Elements set) xs s o =
        within_length (pos 0) (pos (size_of_set sizes set) -ℤ pos 1) xs o.0 (items_within sizes set xs o.1) (omega (arith, ints, few set))
    set_length form.Empty [] s o = omega arith
    set_length f xs s o = absurd o

    le_nat : (m n : ℕ) → m ≤ n → nat_le m n ≡ true
    le_nat m n l = grind arith

    fits_small : (n : ℤ) → neg_ℤ (pos (2 ^ 62)) ≤ℤ n → n ≤ℤ pos (2 ^ 62) → fits true n ≡ true
    fits_small (pos n) l m = let h : n < 2 ^ 63 = omega (arith, ints, m) in grind arith
    fits_small (negsuc n) l m = let h : n < 2 ^ 63 = omega (arith, ints, l) in grind arith

    pub form_kept : (f : Form) (v : Value) → IsSmall f → IsOfForm sizes f v → kept true v ≡ Some v
    form_kept (form.Number lo hi) (value.Int x) s o =
        ap (λ b. if b then Some (value.Int x) else None) (fits_small x (omega (arith, ints, s.0, o.0)) (omega (arith, ints, s.1, o.1)))
    form_kept (form.Number lo hi) v s o = absurd o
    form_kept f (value.Int x) s o = absurd o
    form_kept f (value.Truth b) s o = refl
    form_kept f (value.Elem k) s o = refl
    form_kept f (value.Set xs) s o = ap (λ b. if b then Some (value.Set xs) else None) (le_nat (length xs) 256 (set_length f xs s o))

    pub set_kept : (f : Form) (xs : List ℤ) → IsSmall f → IsOfForm sizes f (value.Set xs) → kept_set xs ≡ Some xs
    set_kept f xs s o = ap (λ b. if b then Some xs else None) (le_nat (length xs) 256 (set_length f xs s o))

    ascending_holds : (xs : List ℤ) → IsAscending xs → is_ascending xs ≡ true
    ascending_holds [] up = refl
    ascending_holds (x ∷ []) up = refl
    ascending_holds (x ∷ y ∷ ys) up = and_from _ _ (lt_true x y up.0) (ascending_holds (y ∷ ys) up.1)

    up_of : (f : Form) (xs : List ℤ) → IsOfForm sizes f (value.Set xs) → IsAscending xs
    up_of (form.Numbers lo hi) xs o = o.0
    up_of form.TruthSet xs o = o.0
    up_of (form.Elements set) xs o = o.0
    up_of form.Empty [] o = tt
    up_of f xs o = absurd o

    pub form_given : (f : Form) (v : Value) → IsSmall f → IsOfForm sizes f v → given v ≡ Some v
    form_given f (value.Int x) s o = refl
    form_given f (value.Truth b) s o = refl
    form_given f (value.Elem k) s o = refl
    form_given f (value.Set xs) s o =
        ap (λ b. if b then Some (value.Set xs) else None) (and_from _ _ (ascending_holds xs (up_of f xs o)) (le_nat (length xs) 256 (set_length f xs s o)))

    pub card_of : (a f : Form) (u : Value) → card_form a ≡ Some f → IsSmall a → IsOfForm sizes a u → IsOfForm sizes f (card u)
    card_of a f u e s o = by (joined_form a a) refl e
      where
        by : (p : Option Form) → joined_form a a ≡ p → (if is_some_form p then Some (form.Number (pos 0) (pos 256)) else None) ≡ Some f → IsOfForm sizes f (card u)
        by None at e = cc
        by (Some g) at e =
            let t = set_tells a u (joins a a g at).left_is o in
            let few_items : length t.items ≤ 256 = set_length a t.items s (subst (IsOfForm sizes a) t.is o) in
            let here : IsOfForm sizes (form.Number (pos 0) (pos 256)) (value.Int (pos (length t.items))) = (omega (arith, ints), omega (arith, ints, few_items)) in
            subst (λ z. IsOfForm sizes z (card u)) (some_is _ f e) (subst (λ z. IsOfForm sizes (form.Number (pos 0) (pos 256)) (card z)) (sym t.is) here)

  -- ---- listed sets

  single_of : (a f : Form) (u : Value) → single a ≡ Some f → IsOfForm sizes a u → (is_set f ≡ true) × ItemOf f (item u)
  single_of (form.Number lo hi) f (value.Int x) e o = subst (λ z. (is_set z ≡ true) × ItemOf z x) (some_is _ f e) (refl, o)
  single_of form.Truth f (value.Truth true) e o = subst (λ z. (is_set z ≡ true) × ItemOf z (pos 1)) (some_is _ f e) (refl, refl)
  single_of form.Truth f (value.Truth false) e o = subst (λ z. (is_set z ≡ true) × ItemOf z (pos 0)) (some_is _ f e) (refl, refl)
  single_of (form.Element set) f (value.Elem k) e o =
      subst (λ z. (is_set z ≡ true) × ItemOf z (pos k)) (some_is _ f e) (refl, and_from _ _ (le_of_pos k) (lt_true (pos k) (pos (size_of_set sizes set)) (omega (arith, ints, o))))
    where
      le_of_pos : (k : ℕ) → int_le (pos 0) (pos k) ≡ true
      le_of_pos k = grind (arith, ints)
  single_of (form.Number lo hi) f u e o = absurd o
  single_of form.Truth f u e o = absurd o
  single_of (form.Element set) f u e o = absurd o
  single_of a f u e o = cc

  -- one item more
  pub listed_of : (a s b f : Form) (u : Value) (xs : List ℤ) → single a ≡ Some s → joined_form s b ≡ Some f → IsOfForm sizes a u → IsOfForm sizes b (value.Set xs) →
      IsOfForm sizes f (value.Set (insert (item u) xs))
  listed_of a s b f u xs e j o p =
      let h = joins s b f j in
      let q = single_of a s u e o in
      let t = set_tells b (value.Set xs) h.right_is p in
      let same : t.items ≡ xs = cc (t.is) in
      let up : IsAscending xs = subst IsAscending same t.up in
      let all : ItemsOf b xs = subst (ItemsOf b) same t.all in
      of_set f (insert (item u) xs) h.whole_is (insert_ascends (item u) xs up) (items_insert f (item u) xs (h.left (item u) q.1) (items_more b f xs h.right all))

  pub joined_small : (s b f : Form) → joined_form s b ≡ Some f → IsSmall f → IsSmall b
  joined_small s b f e = (joins s b f e).small
