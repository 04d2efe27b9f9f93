-- What is found in maps whose names ascend, and what an edit of such a map does.
use Rattle.std.proofs.Common.{◌≡◌, ℕ, zero, suc, ◌+◌, ◌<◌, ◌≤◌, ◌&&◌, Bool, true, false, List, [], ◌∷◌, length, get_or, set, if◌then◌else◌, Option, Some, None, Result, Ok, Err, IfOk, IfErr, refl, sym, ap, subst, ◌∙◌, arith}
use Rattle.std.specs.List.{insert, HoldsAt, AllWithin}
use Rattle.std.specs.List.Sorted.{IsNonDecreasingBy, IsSortedBy, IsBinarySearchResult, IsPartitionPoint}
use Rattle.std.specs.declared.cmp.Ordering.{Ordering}
use Rattle.std.specs.declared.cmp.Ordering.TheVariants.{Less, Equal, Greater}
use Rattle.std.specs.Ordering.{ordering_index, is_lt, is_eq, ordering_reverse}
use Rattle.std.specs.Cmp.{IsTotalOrder, tied_then, unsigned_tied}
use Rattle.std.proofs.lemmas.Cmp.{then_total, on_total, nat_cmp_total, nat_list_cmp_total}
use Rattle.std.proofs.lemmas.List.Sorted.{searchable_from_sorted}
use Rattle.std.proofs.lemmas.Map.Text.{is_eq-slice_cmp}
use Rattle.cb_term.specs.declared.name.Name.{Name}
use Rattle.cb_term.specs.declared.value.Value.{Value}
use Rattle.cb_term.specs.Names.{same_name}
use Rattle.cb_term.specs.Values.{Look, nothing}
use Rattle.cb_term.proofs.ValueLemmas.{same_name_tells, same_name_self}
use Rattle.cb_spec.specs.Stores.{Writes, found, over, empty, look_of, Puts, name_order, AllAfter, IsAscending}

-- ---- the order of names

pub name_total : IsTotalOrder name_order
name_total = then_total (on_total (λ (x : Name). x.text) nat_list_cmp_total) (on_total (λ (x : Name). x.number) nat_cmp_total)

order_tells : (x y : Name) → is_eq (name_order x y) ≡ same_name x y
order_tells x y = sym (tied_then _ _) ∙ (λ i. is_eq-slice_cmp x.text y.text i && unsigned_tied x.number y.number i)

order_equal : (x y : Name) → name_order x y ≡ Equal → x ≡ y
order_equal x y e = same_name_tells x y (sym (order_tells x y) ∙ ap is_eq e)

turned : (x y : Name) (o : Ordering) → name_order x y ≡ o → name_order y x ≡ ordering_reverse o
turned x y o e = name_total.antisymm y x ∙ ap ordering_reverse e

less_apart : (x y : Name) → name_order x y ≡ Less → same_name y x ≡ false
less_apart x y e = sym (order_tells y x) ∙ ap is_eq (turned x y Less e)

greater_apart : (x y : Name) → name_order x y ≡ Greater → same_name y x ≡ false
greater_apart x y e = sym (order_tells y x) ∙ ap is_eq (turned x y Greater e)

-- ---- parts of a list

within_rest : {X : Type 0} (P : X → Type 0) (e : X) (es : List X) (hi : ℕ) → AllWithin P (e ∷ es) 0 (suc hi) → AllWithin P es 0 hi
within_rest P e es hi h k d lo below = h (suc k) d (omega arith) (omega (arith, below))

within_tail : {X : Type 0} (P : X → Type 0) (e : X) (es : List X) (lo hi : ℕ) → AllWithin P (e ∷ es) (suc lo) (suc hi) → AllWithin P es lo hi
within_tail P e es lo hi h k d from below = h (suc k) d (omega (arith, from)) (omega (arith, below))

abbrev pub Is : Ordering → Name → Name × Value → Type 0
Is o x e = name_order e.0 x ≡ o

-- ---- what is found

-- a name that has a gap is not found
pub found_gap : (es : Writes) (i : ℕ) (x : Name) → AllWithin (Is Less x) es 0 i → AllWithin (Is Greater x) es i (length es) → found es x ≡ None
found_gap [] i x less greater = refl
found_gap (e ∷ es) zero x less greater =
    rw (greater_apart e.0 x (greater 0 e (omega arith) (omega arith))) (found_gap es zero x (λ k d lo hi. absurd (omega (arith, hi))) (within_rest (Is Greater x) e es (length es) greater))
found_gap (e ∷ es) (suc i) x less greater =
    rw (less_apart e.0 x (less 0 e (omega arith) (omega arith))) (found_gap es i x (within_rest (Is Less x) e es i less) (within_tail (Is Greater x) e es i (length es) greater))

-- no name of an ascending map that stands before x's place is x
before_apart : (e : Name × Value) (es : Writes) (i : ℕ) (x : Name) → AllAfter e.0 es → i < length es → HoldsAt (Is Equal x) es i → same_name x e.0 ≡ false
before_apart e [] i x after within here = absurd (omega (arith, within))
before_apart e (f ∷ es) zero x after within here = less_apart e.0 x (subst (λ y. name_order e.0 y ≡ Less) (order_equal f.0 x (here f)) after.0)
before_apart e (f ∷ es) (suc i) x after within here = before_apart e es i x after.1 (omega (arith, within)) here

pub found_here : (es : Writes) (i : ℕ) (x : Name) (d : Name × Value) → IsAscending es → i < length es → HoldsAt (Is Equal x) es i → found es x ≡ Some (get_or es i d).1
found_here [] i x d up within here = absurd (omega (arith, within))
found_here (e ∷ es) zero x d up within here =
    rw (subst (λ y. same_name y e.0 ≡ true) (order_equal e.0 x (here e)) (same_name_self e.0)) refl
found_here (e ∷ es) (suc i) x d up within here =
    rw (before_apart e es i x up.0 (omega (arith, within)) here) (found_here es i x d up.1 (omega (arith, within)) here)

-- ---- edits

-- what is found where v is put at x
abbrev FoundPut : Writes → Writes → Name → Value → Type 0
FoundPut old new x v = (y : Name) → found new y ≡ (if same_name y x then Some v else found old y)

-- two tests of which the second cannot follow the first may be made in the other order
swapped : {A : Type 0} (a b : Bool) (u v w : A) → (a ≡ true → b ≡ false) → (if b then u else (if a then v else w)) ≡ (if a then v else (if b then u else w))
swapped false b u v w apart = refl
swapped true false u v w apart = refl
swapped true true u v w apart = absurd (cc (apart refl))

-- a pair of another name in front changes nothing
in_front : (e : Name × Value) (old new : Writes) (x : Name) (v : Value) → same_name x e.0 ≡ false → FoundPut old new x v → FoundPut (e ∷ old) (e ∷ new) x v
in_front e old new x v apart put y =
    rw (put y) (swapped (same_name y x) (same_name y e.0) (Some e.1) (Some v) (found old y) (λ same. subst (λ z. same_name z e.0 ≡ false) (sym (same_name_tells y x same)) apart))

pub put_here : (es : Writes) (i : ℕ) (x : Name) (v : Value) → IsAscending es → i < length es → HoldsAt (Is Equal x) es i → FoundPut es (set es i (x, v)) x v
put_here [] i x v up within here y = absurd (omega (arith, within))
put_here (e ∷ es) zero x v up within here y =
    let over_same : (b : Bool) → (if b then Some v else found es y) ≡ (if b then Some v else (if b then Some e.1 else found es y)) = λ b. elim b as (λ b. (if b then Some v else found es y) ≡ (if b then Some v else (if b then Some e.1 else found es y))) [ true ↦ refl | false ↦ refl ] in
    subst (λ z. (if same_name y x then Some v else found es y) ≡ (if same_name y x then Some v else (if same_name y z then Some e.1 else found es y))) (sym (order_equal e.0 x (here e))) (over_same (same_name y x))
put_here (e ∷ es) (suc i) x v up within here y =
    in_front e es (set es i (x, v)) x v (before_apart e es i x up.0 (omega (arith, within)) here) (put_here es i x v up.1 (omega (arith, within)) here) y

pub put_gap : (es : Writes) (i : ℕ) (x : Name) (v : Value) → AllWithin (Is Less x) es 0 i → i ≤ length es → FoundPut es (insert es i (x, v)) x v
put_gap es zero x v less within y = refl
put_gap [] (suc i) x v less within y = refl
put_gap (e ∷ es) (suc i) x v less within y =
    in_front e es (insert es i (x, v)) x v (less_apart e.0 x (less 0 e (omega arith) (omega arith))) (put_gap es i x v (within_rest (Is Less x) e es i less) (omega (arith, within))) y

-- ---- the order stays

set_after : (y : Name) (es : Writes) (i : ℕ) (x : Name) (v : Value) → AllAfter y es → i < length es → HoldsAt (Is Equal x) es i → AllAfter y (set es i (x, v))
set_after y [] i x v after within here = absurd (omega (arith, within))
set_after y (e ∷ es) zero x v after within here = (subst (λ z. name_order y z ≡ Less) (order_equal e.0 x (here e)) after.0, after.1)
set_after y (e ∷ es) (suc i) x v after within here = (after.0, set_after y es i x v after.1 (omega (arith, within)) here)

pub set_ascends : (es : Writes) (i : ℕ) (x : Name) (v : Value) → IsAscending es → i < length es → HoldsAt (Is Equal x) es i → IsAscending (set es i (x, v))
set_ascends [] i x v up within here = absurd (omega (arith, within))
set_ascends (e ∷ es) zero x v up within here = (subst (λ z. AllAfter z es) (order_equal e.0 x (here e)) up.0, up.1)
set_ascends (e ∷ es) (suc i) x v up within here = (set_after e.0 es i x v up.0 (omega (arith, within)) here, set_ascends es i x v up.1 (omega (arith, within)) here)

greater_after : (es : Writes) (x : Name) → AllWithin (Is Greater x) es 0 (length es) → AllAfter x es
greater_after [] x greater = tt
greater_after (e ∷ es) x greater =
    (turned e.0 x Greater (greater 0 e (omega arith) (omega arith)), greater_after es x (within_rest (Is Greater x) e es (length es) greater))

insert_after : (y : Name) (es : Writes) (i : ℕ) (x : Name) (v : Value) → AllAfter y es → name_order y x ≡ Less → AllAfter y (insert es i (x, v))
insert_after y es zero x v after less = (less, after)
insert_after y [] (suc i) x v after less = (less, after)
insert_after y (e ∷ es) (suc i) x v after less = (after.0, insert_after y es i x v after.1 less)

pub insert_ascends : (es : Writes) (i : ℕ) (x : Name) (v : Value) → IsAscending es → AllWithin (Is Less x) es 0 i → AllWithin (Is Greater x) es i (length es) → IsAscending (insert es i (x, v))
insert_ascends es zero x v up less greater = (greater_after es x greater, up)
insert_ascends [] (suc i) x v up less greater = (tt, tt)
insert_ascends (e ∷ es) (suc i) x v up less greater = (
  insert_after e.0 es i x v up.0 (less 0 e (omega arith) (omega arith)),
  insert_ascends es i x v up.1 (within_rest (Is Less x) e es i less) (within_tail (Is Greater x) e es i (length es) greater),
)

-- ---- a search

rises : (es : Writes) → IsAscending es → (k : ℕ) (d : Name × Value) → suc k < length es → is_lt (name_order (get_or es (suc k) d).0 (get_or es k d).0) ≡ false
rises [] up k d hi = absurd (omega (arith, hi))
rises (e ∷ []) up k d hi = absurd (omega (arith, hi))
rises (e ∷ f ∷ es) up zero d hi = ap is_lt (turned e.0 f.0 Less up.0.0)
rises (e ∷ f ∷ es) up (suc k) d hi = rises (f ∷ es) up.1 k d (omega (arith, hi))

neighbours : (es : Writes) → IsAscending es → IsSortedBy (λ (a b : Name × Value). is_lt (name_order a.0 b.0)) es
neighbours es up k d lo hi =
    subst (λ n. is_lt (name_order (get_or es n d).0 (get_or es k d).0) ≡ false) {x = suc k} {y = k + 1} (omega arith) (rises es up k d (omega (arith, hi)))

pub searchable : (es : Writes) (x : Name) → IsAscending es → IsNonDecreasingBy (λ (e : Name × Value). ordering_index (name_order e.0 x)) es
searchable es x up = searchable_from_sorted name_total (λ (e : Name × Value). e.0) es x (neighbours es up)

pub search_here : (r : Result ℕ ℕ) (es : Writes) (x : Name) → IsBinarySearchResult (λ e. name_order e.0 x) es r → IfOk r (HoldsAt (Is Equal x) es)
search_here (Ok i) es x h = h
search_here (Err i) es x h = tt

pub search_gap : (r : Result ℕ ℕ) (es : Writes) (x : Name) → IsAscending es → IsBinarySearchResult (λ e. name_order e.0 x) es r → IfErr r (IsPartitionPoint (Is Less x) (Is Greater x) es)
search_gap (Ok i) es x up h = tt
search_gap (Err i) es x up h = h (searchable es x up)

-- ---- what names stand for

abbrev pub or_look : Option Value → Value → Value
or_look None v = v
or_look (Some w) v = w

pub over_is : (d : Writes) (look : Look) (y : Name) → over d look y ≡ or_look (found d y) (look y)
over_is [] look y = refl
over_is (p ∷ d) look y = elim (same_name y p.0) as (λ b. (if b then p.1 else over d look y) ≡ or_look (if b then Some p.1 else found d y) (look y)) [
  | true ↦ refl
  | false ↦ over_is d look y
]

pub found_is_look : (d : Writes) (x : Name) (o : Option Value) → o ≡ found d x → or_look o nothing ≡ look_of d x
found_is_look d x o e = ap (λ p. or_look p nothing) e ∙ sym (over_is d empty x)

pub puts : (old new : Writes) (x : Name) (v : Value) → FoundPut old new x v → Puts old new x v
puts old new x v put = record {
  found_is = put;
  look_is = λ i y. (over_is new empty y ∙ ap (λ o. or_look o nothing) (put y) ∙ either (same_name y x) (found old y) ∙ ap (λ w. if same_name y x then v else w) (sym (over_is old empty y))) i;
}
  where
    either : (b : Bool) (o : Option Value) → or_look (if b then Some v else o) nothing ≡ (if b then v else or_look o nothing)
    either true o = refl
    either false o = refl

-- ---- the same for a store `self` that holds the list es, which the search has seen as `slice`

module _ (es slice self : Writes) (same : slice ≡ es) (view : es ≡ self) (up : IsAscending es) (i : ℕ) (x : Name) where
  pub get_here : i < length slice → HoldsAt (Is Equal x) slice i → (p : Name × Value) → p ≡ get_or es i p → Some p.1 ≡ found self x
  get_here within here p is =
      let at_es = found_here es i x p up (subst (λ z. i < length z) same within) (subst (λ z. HoldsAt (Is Equal x) z i) same here) in
      subst (λ z. Some p.1 ≡ found z x) view (ap (λ (q : Name × Value). Some q.1) is ∙ sym at_es)

  pub get_gap : IsPartitionPoint (Is Less x) (Is Greater x) slice i → None ≡ found self x
  get_gap gap =
      let at_es = subst (λ z. IsPartitionPoint (Is Less x) (Is Greater x) z i) same gap in
      subst (λ z. None ≡ found z x) view (sym (found_gap es i x at_es.0 at_es.1))

  pub put_over : (v : Value) → i < length slice → HoldsAt (Is Equal x) slice i → IsAscending (set es i (x, v)) × Puts self (set es i (x, v)) x v
  put_over v within here =
      let within_es = subst (λ z. i < length z) same within in
      let here_es = subst (λ z. HoldsAt (Is Equal x) z i) same here in
      (set_ascends es i x v up within_es here_es, subst (λ z. Puts z (set es i (x, v)) x v) view (puts es (set es i (x, v)) x v (put_here es i x v up within_es here_es)))

  pub put_between : (v : Value) → i ≤ length slice → IsPartitionPoint (Is Less x) (Is Greater x) slice i → (new : Writes) → new ≡ insert es i (x, v) → IsAscending new × Puts self new x v
  put_between v within gap new is =
      let at_es = subst (λ z. IsPartitionPoint (Is Less x) (Is Greater x) z i) same gap in
      let put = put_gap es i x v at_es.0 (subst (λ z. i ≤ length z) same within) in
      subst (λ n. IsAscending n × Puts self n x v) (sym is)
      (insert_ascends es i x v up at_es.0 at_es.1, subst (λ z. Puts z (insert es i (x, v)) x v) view (puts es (insert es i (x, v)) x v put))

  -- so where the name stays as it stands there
  pub put_kept : (e : Name × Value) (stored v : Value) → stored ≡ v → i < length slice → HoldsAt (Is Equal x) slice i → e ≡ get_or es i e →
      IsAscending (set es i (e.0, stored)) × Puts self (set es i (e.0, stored)) x v
  put_kept e stored v same_value within here is =
      let at_es : HoldsAt (Is Equal x) es i = subst (λ z. HoldsAt (Is Equal x) z i) same here in
      let name : e.0 ≡ x = order_equal e.0 x (subst (λ (q : Name × Value). name_order q.0 x ≡ Equal) (sym is) (at_es e)) in
      subst (λ n. IsAscending (set es i (n, stored)) × Puts self (set es i (n, stored)) x v) (sym name)
      (subst (λ w. IsAscending (set es i (x, w)) × Puts self (set es i (x, w)) x v) (sym same_value) (put_over v within here))
