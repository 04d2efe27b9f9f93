-- What is true of sets, of their parts and of how many items they have, as formulas.
use Rattle.std.proofs.Common.{◌≡◌, ℕ, ◌+◌, ℤ, pos, negsuc, int_lt, int_le, Bool, true, false, ◌||◌, List, [], ◌∷◌, length, Some, None, refl, sym, ap, subst, arith, true≢false}
use Rattle.std.specs.Ordering.{int_eq}
use Rattle.std.proofs.lemmas.Bool.{and_parts}
use Rattle.std.proofs.lemmas.Bool.Decides.{Decides-int_eq}
use Rattle.std.proofs.lemmas.Int.{ints}
use Rattle.cb_term.specs.declared.name.Name.{Name}
use Rattle.cb_term.specs.declared.kind.Kind.{Kind}
use Rattle.cb_term.specs.declared.kind.Kind.TheVariants as kind
use Rattle.cb_term.specs.declared.kind.Base.{Base}
use Rattle.cb_term.specs.declared.kind.Base.TheVariants as base
use Rattle.cb_term.specs.declared.sign.TermSign.TheVariants.{Add, Minus, Union}
use Rattle.cb_term.specs.declared.sign.RelSign.TheVariants.{Equal, AtMost, Member, Subset}
use Rattle.cb_term.specs.declared.value.Value.{Value}
use Rattle.cb_term.specs.declared.value.Value.TheVariants as value
use Rattle.cb_term.specs.Tree.{TermTree, Num, Bin, Card, FormulaTree, Rel, Not, Implies}
use Rattle.cb_term.specs.Sets.{has, union, difference, same_items}
use Rattle.cb_term.specs.Values.{Look, IsOf, IsItem, AreItems, rel, item, bit, card, size_of_set}
use Rattle.cb_term.specs.Holds.{Holds, IsValue}
use Rattle.cb_term.proofs.HoldsLemmas.{IsStable, holds_stable, by_value, meets_mono}
use Rattle.cb_seq.specs.Kinds.{kind_of, fits, Gives, rel_kinds, common_set}
use Rattle.cb_seq.proofs.KindLemmas.{both_true}
use Rattle.cb_seq.proofs.SetLemmas.{eq_self, eq_tells}
use Rattle.cb_seq.proofs.KindSound.{IsSetKind}
use Rattle.cb_check_sets.specs.SetRules.{item_kind, kind_of_base, only}
use Rattle.cb_check_sets.proofs.SetLaws.{Within, all_within, within_all, same_lists, le_true, true_le, length_added, length_removed, length_within}
use Rattle.cb_seq.proofs.PremiseLemmas.{valued, set_valued, bin_value, rel_holds}
use Rattle.cb_check_sets.proofs.MemberLemmas.{AsItem, member_set, member_item, member_holds, set_asc, is_some_tells}

no_some : {A : Type 0} {x : A} → None ≡ Some x → ⊥
no_some e = cc

-- ---- an item as a value

item_value : (sizes : List ℕ) (b : Base) (z : ℤ) → IsItem sizes b z → (v : Value) × IsOf sizes (kind_of_base b) v × (item v ≡ z)
item_value sizes base.Integer z i = (value.Int z, tt, refl)
item_value sizes base.Truth z i = by (int_eq z (pos 0)) (int_eq z (pos 1)) refl refl i
  where
    by : (c d : Bool) → int_eq z (pos 0) ≡ c → int_eq z (pos 1) ≡ d → (c || d) ≡ true → (v : Value) × IsOf sizes kind.Truth v × (item v ≡ z)
    by true d e f h = (value.Truth false, tt, sym (eq_tells z (pos 0) e))
    by false true e f h = (value.Truth true, tt, sym (eq_tells z (pos 1) f))
    by false false e f h = absurd (true≢false (sym h))
item_value sizes (base.Elem set) (pos n) i =
    let p = and_parts (int_le (pos 0) (pos n)) (int_lt (pos n) (pos (size_of_set sizes set))) i in (value.Elem n, omega (arith, ints, p.1), refl)
item_value sizes (base.Elem set) (negsuc n) i =
    let p = and_parts (int_le (pos 0) (negsuc n)) (int_lt (negsuc n) (pos (size_of_set sizes set))) i in absurd (omega (arith, ints, le_true (pos 0) (negsuc n) p.0))

item_at : (sizes : List ℕ) (b : Base) (xs : List ℤ) (z : ℤ) → AreItems sizes b xs → has xs z ≡ true → IsItem sizes b z
item_at sizes b [] z a h = absurd (true≢false (sym h))
item_at sizes b (x ∷ xs) z a h = by (int_eq x z) refl h (item_at sizes b xs z a.1)
  where
    by : (c : Bool) → int_eq x z ≡ c → (c || has xs z) ≡ true → (has xs z ≡ true → IsItem sizes b z) → IsItem sizes b z
    by true e h r = subst (IsItem sizes b) (eq_tells x z e) a.0
    by false e h r = r h

base_member : (b : Base) → rel_kinds Member (kind_of_base b) kind.EmptySet ≡ true
base_member base.Integer = refl
base_member base.Truth = refl
base_member (base.Elem set) = refl

base_item : (sizes : List ℕ) (b : Base) (v : Value) → IsOf sizes (kind_of_base b) v → AsItem sizes v
base_item sizes b v i = member_item sizes (kind_of_base b) kind.EmptySet v (base_member b) i

-- each item of the first set is one of the second, where that is so of each value of the element kind
part_of : (sizes : List ℕ) (k l : Kind) (xs ys : List ℤ) → IsSetKind sizes k → IsOf sizes k (value.Set xs) →
    ((v : Value) → IsOf sizes (item_kind (Some k) (Some l)) v → AsItem sizes v → has xs (item v) ≡ true → has ys (item v) ≡ true) → Within xs ys
part_of sizes (kind.SetOf b) l xs ys s i go z h =
    let p = item_value sizes b z (item_at sizes b xs z i.1 h) in
    subst (λ w. has ys w ≡ true) p.2 (go p.0 p.1 (base_item sizes b p.0 p.1) (subst (λ w. has xs w ≡ true) (sym p.2) h))
part_of sizes kind.EmptySet l [] ys s i go z h = absurd (true≢false (sym h))
part_of sizes kind.EmptySet l (x ∷ xs) ys s i go z h = absurd i
part_of sizes k l xs ys s i go z h = absurd s

-- ---- kinds of sets

common_sets : (sizes : List ℕ) (k l m : Kind) → common_set k l ≡ Some m → IsSetKind sizes k × IsSetKind sizes l
common_sets sizes (kind.SetOf b) (kind.SetOf c) m e = (tt, tt)
common_sets sizes (kind.SetOf b) kind.EmptySet m e = (tt, tt)
common_sets sizes kind.EmptySet (kind.SetOf b) m e = (tt, tt)
common_sets sizes kind.EmptySet kind.EmptySet m e = (tt, tt)
common_sets sizes k l m e = absurd (no_some e)

same_items_self : (xs : List ℤ) → same_items xs xs ≡ true
same_items_self [] = refl
same_items_self (x ∷ xs) = rw (eq_self x, same_items_self xs) refl

subset_tells : (u w : Value) → rel Subset u w ≡ true → (v : Value) → rel Member v u ≡ true → rel Member v w ≡ true
subset_tells (value.Set xs) (value.Set ys) e (value.Int x) h = all_within xs ys e x h
subset_tells (value.Set xs) (value.Set ys) e (value.Truth x) h = all_within xs ys e (bit x) h
subset_tells (value.Set xs) (value.Set ys) e (value.Elem x) h = all_within xs ys e (pos x) h
subset_tells (value.Set xs) (value.Set ys) e (value.Set x) h = cc
subset_tells u w e v h = cc

equal_ints : (m n : ℕ) → m ≡ n → int_eq (pos m) (pos n) ≡ true
equal_ints m n e = (Decides-int_eq (pos m) (pos n)).1 (ap pos e)

not_has : (b : Bool) → (b ≡ true → ⊥) → b ≡ false
not_has true n = absurd (n refl)
not_has false n = refl

module _ (sizes : List ℕ) (look : Look) where
  card_value : (s : TermTree) (xs : List ℤ) → IsValue sizes look s [] (value.Set xs) → IsValue sizes look (Card s) [] (value.Int (pos (length xs)))
  card_value s xs h = meets_mono sizes look s [] (λ z. z ≡ value.Set xs) (λ z. card z ≡ value.Int (pos (length xs))) (λ z e. ap card e) h

  only_value : (t : TermTree) (u : Value) → IsValue sizes look t [] u → IsValue sizes look (only t) [] (value.Set (item u ∷ []))
  only_value t u h = meets_mono sizes look t [] (λ z. z ≡ u) (λ z. value.Set (item z ∷ []) ≡ value.Set (item u ∷ [])) (λ z e. ap (λ w. value.Set (item w ∷ [])) e) h

-- ---- the facts

module _ (sizes : List ℕ) (look : Look) (names : List (Name × Kind)) (gives : Gives sizes look names) where
  abbrev H : FormulaTree → Type 0
  H f = Holds sizes look f []

  -- the values of an item and a set
  by_item : (s t : TermTree) → fits sizes names [] (Rel Member t s) ≡ true → (C : Type 0) → IsStable C →
      ((u : Value) (xs : List ℤ) (l : Kind) → IsSetKind sizes l → IsOf sizes l (value.Set xs) → AsItem sizes u → IsValue sizes look t [] u → IsValue sizes look s [] (value.Set xs) → C) → C
  by_item s t fit C st go =
      let ks = both_true (rel_kinds Member) (kind_of sizes names [] t) (kind_of sizes names [] s) fit in
      let set_s = member_set sizes ks.0 ks.1 ks.4 in
      valued sizes look names gives t ks.0 ks.2 C st (λ u hu ku.
      set_valued sizes look names gives s ks.1 ks.3 set_s C st (λ xs hs of_l.
      go u xs ks.1 set_s of_l (member_item sizes ks.0 ks.1 u ks.4 ku) hu hs))

  -- the values of two sets of one kind
  by_two : (s u : TermTree) → fits sizes names [] (Rel Subset s u) ≡ true → (C : Type 0) → IsStable C →
      ((k l : Kind) (xs ys : List ℤ) → kind_of sizes names [] s ≡ Some k → kind_of sizes names [] u ≡ Some l → IsSetKind sizes k → IsSetKind sizes l → IsOf sizes k (value.Set xs) → IsOf sizes l (value.Set ys) →
      IsValue sizes look s [] (value.Set xs) → IsValue sizes look u [] (value.Set ys) → C) → C
  by_two s u fit C st go =
      let ks = both_true (rel_kinds Subset) (kind_of sizes names [] s) (kind_of sizes names [] u) fit in
      let m = is_some_tells (common_set ks.0 ks.1) ks.4 in
      let sets = common_sets sizes ks.0 ks.1 m.0 m.1 in
      set_valued sizes look names gives s ks.0 ks.2 sets.0 C st (λ xs hs of_k.
      set_valued sizes look names gives u ks.1 ks.3 sets.1 C st (λ ys hu of_l.
      go ks.0 ks.1 xs ys ks.2 ks.3 sets.0 sets.1 of_k of_l hs hu))

  pub size_not_negative : (s : TermTree) (k : Kind) → kind_of sizes names [] s ≡ Some k → IsSetKind sizes k → H (Rel AtMost (Num (pos 0)) (Card s))
  size_not_negative s k e sk =
      let G : FormulaTree = Rel AtMost (Num (pos 0)) (Card s) in
      set_valued sizes look names gives s k e sk (H G) (holds_stable sizes look G []) (λ xs hs of_l.
      (rel_holds sizes look [] (Num (pos 0)) (Card s) (value.Int (pos 0)) (value.Int (pos (length xs))) refl (card_value sizes look s xs hs) AtMost).0
      (true_le (pos 0) (pos (length xs)) (omega (arith, ints))))

  pub size_added : (s t : TermTree) → fits sizes names [] (Rel Member t s) ≡ true → H (Not (Rel Member t s)) → H (Rel Equal (Card (Bin Union s (only t))) (Bin Add (Card s) (Num (pos 1))))
  size_added s t fit out =
      let G : FormulaTree = Rel Equal (Card (Bin Union s (only t))) (Bin Add (Card s) (Num (pos 1))) in
      by_item s t fit (H G) (holds_stable sizes look G []) (λ u xs l set_l of_l ai hu hs.
      let new : has xs (item u) ≡ false = not_has (has xs (item u)) (λ h. out ((member_holds sizes look names gives t s u xs ai hu hs).0 h)) in
      let sum : IsValue sizes look (Bin Union s (only t)) [] (value.Set (union xs (item u ∷ []))) =
      bin_value sizes look [] s (only t) (value.Set xs) (value.Set (item u ∷ [])) hs (only_value sizes look t u hu) Union in
      let left = card_value sizes look (Bin Union s (only t)) (union xs (item u ∷ [])) sum in
      let right = bin_value sizes look [] (Card s) (Num (pos 1)) (value.Int (pos (length xs))) (value.Int (pos 1)) (card_value sizes look s xs hs) refl Add in
      (rel_holds sizes look [] (Card (Bin Union s (only t))) (Bin Add (Card s) (Num (pos 1))) _ _ left right Equal).0
      (equal_ints (length (union xs (item u ∷ []))) (length xs + 1) (length_added xs (item u) (set_asc sizes l xs set_l of_l) new)))

  pub size_removed : (s t : TermTree) → fits sizes names [] (Rel Member t s) ≡ true → H (Rel Member t s) → H (Rel Equal (Bin Add (Card (Bin Minus s (only t))) (Num (pos 1))) (Card s))
  size_removed s t fit inside =
      let G : FormulaTree = Rel Equal (Bin Add (Card (Bin Minus s (only t))) (Num (pos 1))) (Card s) in
      by_item s t fit (H G) (holds_stable sizes look G []) (λ u xs l set_l of_l ai hu hs.
      let old = (member_holds sizes look names gives t s u xs ai hu hs).1 inside in
      let rest : List ℤ = difference xs (item u ∷ []) in
      let less : IsValue sizes look (Bin Minus s (only t)) [] (value.Set rest) =
      bin_value sizes look [] s (only t) (value.Set xs) (value.Set (item u ∷ [])) hs (only_value sizes look t u hu) Minus in
      let left = bin_value sizes look [] (Card (Bin Minus s (only t))) (Num (pos 1)) (value.Int (pos (length rest))) (value.Int (pos 1)) (card_value sizes look (Bin Minus s (only t)) rest less) refl Add in
      (rel_holds sizes look [] (Bin Add (Card (Bin Minus s (only t))) (Num (pos 1))) (Card s) _ _ left (card_value sizes look s xs hs) Equal).0
      (equal_ints (length rest + 1) (length xs) (length_removed xs (item u) (set_asc sizes l xs set_l of_l) old)))

  pub size_within : (s u : TermTree) → fits sizes names [] (Rel Subset s u) ≡ true → H (Rel Subset s u) → H (Rel AtMost (Card s) (Card u))
  size_within s u fit part =
      let G : FormulaTree = Rel AtMost (Card s) (Card u) in
      by_two s u fit (H G) (holds_stable sizes look G []) (λ k l xs ys ek el sk sl of_k of_l hs hu.
      let within = all_within xs ys ((rel_holds sizes look [] s u (value.Set xs) (value.Set ys) hs hu Subset).1 part) in
      let le = length_within xs ys (set_asc sizes k xs sk of_k) (set_asc sizes l ys sl of_l) within in
      (rel_holds sizes look [] (Card s) (Card u) (value.Int (pos (length xs))) (value.Int (pos (length ys))) (card_value sizes look s xs hs) (card_value sizes look u ys hu) AtMost).0
      (true_le (pos (length xs)) (pos (length ys)) (omega (arith, ints, le))))

  -- what is in a set is in each that it is a part of
  pub subset_member : (s u t : TermTree) → H (Rel Subset s u) → H (Implies (Rel Member t s) (Rel Member t u))
  subset_member s u t part =
      let G : FormulaTree = Implies (Rel Member t s) (Rel Member t u) in
      let st = holds_stable sizes look G [] in
      by_value sizes look t [] (H G) st (λ a ha.
      by_value sizes look s [] (H G) st (λ b hb.
      by_value sizes look u [] (H G) st (λ c hc m.
      (rel_holds sizes look [] t u a c ha hc Member).0
      (subset_tells b c ((rel_holds sizes look [] s u b c hb hc Subset).1 part) a ((rel_holds sizes look [] t s a b ha hb Member).1 m)))))

  -- a set is a part of another where each value of the element kind that is in the one is in the other
  pub subset_from : (s u : TermTree) → fits sizes names [] (Rel Subset s u) ≡ true →
      ((v : Value) (k l : Kind) (xs ys : List ℤ) → kind_of sizes names [] s ≡ Some k → kind_of sizes names [] u ≡ Some l → IsOf sizes (item_kind (Some k) (Some l)) v → AsItem sizes v →
      IsValue sizes look s [] (value.Set xs) → IsValue sizes look u [] (value.Set ys) → has xs (item v) ≡ true → has ys (item v) ≡ true) → H (Rel Subset s u)
  subset_from s u fit go =
      by_two s u fit (H (Rel Subset s u)) (holds_stable sizes look (Rel Subset s u) []) (λ k l xs ys ek el sk sl of_k of_l hs hu.
      (rel_holds sizes look [] s u (value.Set xs) (value.Set ys) hs hu Subset).0
      (within_all xs ys (part_of sizes k l xs ys sk of_k (λ v of_e ai h. go v k l xs ys ek el of_e ai hs hu h))))

  -- sets that are parts of one another are equal
  pub equal_from : (s u : TermTree) → fits sizes names [] (Rel Subset s u) ≡ true → H (Rel Subset s u) → H (Rel Subset u s) → H (Rel Equal s u)
  equal_from s u fit there back =
      by_two s u fit (H (Rel Equal s u)) (holds_stable sizes look (Rel Equal s u) []) (λ k l xs ys ek el sk sl of_k of_l hs hu.
      let a = (rel_holds sizes look [] s u (value.Set xs) (value.Set ys) hs hu Subset).1 there in
      let b = (rel_holds sizes look [] u s (value.Set ys) (value.Set xs) hu hs Subset).1 back in
      let same = same_lists xs ys (set_asc sizes k xs sk of_k) (set_asc sizes l ys sl of_l) (all_within xs ys a) (all_within ys xs b) in
      (rel_holds sizes look [] s u (value.Set xs) (value.Set ys) hs hu Equal).0 (subst (λ zs. same_items xs zs ≡ true) same (same_items_self xs)))
