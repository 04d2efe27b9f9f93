-- A value is in a domain where it is of the domain's kind and the typing conjunct holds.
use Rattle.std.proofs.Common.{◌≡◌, ◌↔◌, ℕ, zero, suc, ◌+◌, ℤ, pos, negsuc, ◌+ℤ◌, ◌<ℤ◌, ◌≤ℤ◌, int_lt, int_le, Bool, true, false, ◌||◌, List, [], ◌∷◌, IsTrue, refl, sym, ◌∙◌, arith, if◌then◌else◌, true≢false}
use Rattle.std.specs.Ordering.{int_eq}
use Rattle.std.specs.Int.{int_gap}
use Rattle.std.specs.List.{list_all}
use Rattle.std.proofs.lemmas.Bool.{and_parts, and_from}
use Rattle.std.proofs.lemmas.Bool.Decides.{Decides-int_eq}
use Rattle.std.proofs.lemmas.Int.{by_lt_z, ints}
use Rattle.cb_term.specs.declared.kind.Domain.{Domain}
use Rattle.cb_term.specs.declared.kind.Domain.TheVariants as domain
use Rattle.cb_term.specs.declared.kind.Base.TheVariants as base
use Rattle.cb_term.specs.declared.name.Name.{Name}
use Rattle.cb_term.specs.declared.sign.RelSign.TheVariants.{Member, Subset}
use Rattle.cb_term.specs.declared.value.Value.{Value}
use Rattle.cb_term.specs.declared.value.Value.TheVariants as value
use Rattle.cb_term.specs.Sets.{has, upwards, range}
use Rattle.cb_term.specs.Tree.{Var}
use Rattle.cb_term.specs.Values.{Look, IsOf, AreItems, rel, size_of_set}
use Rattle.cb_term.specs.Holds.{Holds}
use Rattle.cb_spec.specs.Domains.{kind_of_domain, Within, AllWithin, In, typing}

-- ---- the numbers of a range

eq_tells : (x y : ℤ) → int_eq x y ≡ true → x ≡ y
eq_tells x y = (Decides-int_eq x y).0

other_way : (x y : ℤ) → int_lt x y ≡ false → int_eq x y ≡ false → y <ℤ x
other_way x y e f = by_lt_z y x (λ l. l) (λ g.
    let same : x ≡ y = omega (arith, ints, e, g) in
    absurd (true≢false (sym ((Decides-int_eq x y).1 same) ∙ f)))

up_tells : (x : ℤ) (n : ℕ) (z : ℤ) → has (upwards x n) z ≡ true → (x ≤ℤ z) × (z <ℤ (x +ℤ pos n))
up_tells x zero z h = cc
up_tells x (suc n) z h = by (int_eq x z) refl h (up_tells (x +ℤ pos 1) n z)
  where
    by : (c : Bool) → int_eq x z ≡ c → (c || has (upwards (x +ℤ pos 1) n) z) ≡ true → (has (upwards (x +ℤ pos 1) n) z ≡ true → ((x +ℤ pos 1) ≤ℤ z) × (z <ℤ ((x +ℤ pos 1) +ℤ pos n))) → (x ≤ℤ z) × (z <ℤ (x +ℤ pos (suc n)))
    by true f h r = (omega (arith, ints, eq_tells x z f), omega (arith, ints, eq_tells x z f))
    by false f h r = let p = r h in (omega (arith, ints, p.0), omega (arith, ints, p.1))

up_has : (x : ℤ) (n : ℕ) (z : ℤ) → x ≤ℤ z → z <ℤ (x +ℤ pos n) → has (upwards x n) z ≡ true
up_has x zero z l g = absurd (omega (arith, ints, l, g))
up_has x (suc n) z l g = by (int_eq x z) refl (int_lt x z) refl (up_has (x +ℤ pos 1) n z)
  where
    by : (c : Bool) → int_eq x z ≡ c → (d : Bool) → int_lt x z ≡ d → ((x +ℤ pos 1) ≤ℤ z → z <ℤ ((x +ℤ pos 1) +ℤ pos n) → has (upwards (x +ℤ pos 1) n) z ≡ true) → (c || has (upwards (x +ℤ pos 1) n) z) ≡ true
    by true f d e r = refl
    by false f true e r = r (omega (arith, ints, e)) (omega (arith, ints, g))
    by false f false e r = absurd (omega (arith, ints, l, other_way x z e f))

gap_end : (x y : ℤ) → x ≤ℤ y → (x +ℤ pos (int_gap x y + 1)) ≡ (y +ℤ pos 1)
gap_end (pos a) (pos b) l = omega (arith, ints, l)
gap_end (pos a) (negsuc b) l = absurd (omega (arith, ints, l))
gap_end (negsuc a) (pos b) l = omega (arith, ints)
gap_end (negsuc a) (negsuc b) l = omega (arith, ints, l)

pub range_tells : (x y z : ℤ) → has (range x y) z ≡ true → Within x y z
range_tells x y z h = by (int_le x y) refl h
  where
    by : (b : Bool) → int_le x y ≡ b → has (if b then upwards x (int_gap x y + 1) else []) z ≡ true → Within x y z
    by true e h =
        let p = up_tells x (int_gap x y + 1) z h in
        (p.0, omega (arith, ints, p.1, gap_end x y (omega (arith, ints, e))))
    by false e h = cc

pub range_has : (x y z : ℤ) → Within x y z → has (range x y) z ≡ true
range_has x y z w = by (int_le x y) refl
  where
    by : (b : Bool) → int_le x y ≡ b → has (if b then upwards x (int_gap x y + 1) else []) z ≡ true
    by true e = up_has x (int_gap x y + 1) z w.0 (omega (arith, ints, w.1, gap_end x y (omega (arith, ints, e))))
    by false e = absurd (omega (arith, ints, w.0, w.1, e))

-- ---- sets of them

all_in_range : (lo hi : ℤ) (xs : List ℤ) → AllWithin lo hi xs ↔ (list_all (has (range lo hi)) xs ≡ true)
all_in_range lo hi [] = ((λ _. refl), (λ _. tt))
all_in_range lo hi (x ∷ xs) = (
  (λ w. and_from _ _ (range_has lo hi x w.0) ((all_in_range lo hi xs).0 w.1)),
  (λ e. let p = and_parts _ _ e in (range_tells lo hi x p.0, (all_in_range lo hi xs).1 p.1)),
)

module _ (sizes : List ℕ) where
  integers : (xs : List ℤ) → AreItems sizes base.Integer xs
  integers [] = tt
  integers (x ∷ xs) = (tt, integers xs)

  elements : (set : ℕ) (xs : List ℤ) → AreItems sizes (base.Elem set) xs → list_all (has (upwards (pos 0) (size_of_set sizes set))) xs ≡ true
  elements set [] are = refl
  elements set (x ∷ xs) are =
      let p = and_parts (int_le (pos 0) x) (int_lt x (pos (size_of_set sizes set))) are.0 in
      and_from _ _ (up_has (pos 0) (size_of_set sizes set) x (omega (arith, ints, p.0)) (omega (arith, ints, p.1))) (elements set xs are.1)

  -- what the typing conjunct says of a value
  abbrev TypingOf : Domain → Value → Type 0
  TypingOf (domain.Range lo hi) v = IsTrue (rel Member v (value.Set (range lo hi)))
  TypingOf domain.Truth v = IsTrue (rel Member v (value.Set (pos 0 ∷ pos 1 ∷ [])))
  TypingOf (domain.Elems set) v = IsTrue (rel Member v (value.Set (upwards (pos 0) (size_of_set sizes set))))
  TypingOf (domain.Subsets lo hi) v = IsTrue (rel Subset v (value.Set (range lo hi)))
  TypingOf (domain.ElemSubsets set) v = IsTrue (rel Subset v (value.Set (upwards (pos 0) (size_of_set sizes set))))

  typed_value : (d : Domain) (v : Value) → In sizes d v ↔ (IsOf sizes (kind_of_domain d) v × TypingOf d v)
  typed_value (domain.Range lo hi) (value.Int x) = ((λ w. (tt, range_has lo hi x w)), (λ p. range_tells lo hi x p.1))
  typed_value domain.Truth (value.Truth true) = ((λ _. (tt, refl)), (λ _. tt))
  typed_value domain.Truth (value.Truth false) = ((λ _. (tt, refl)), (λ _. tt))
  typed_value (domain.Elems set) (value.Elem k) = (
    (λ below. (below, up_has (pos 0) (size_of_set sizes set) (pos k) (omega (arith, ints)) (omega (arith, ints, below)))),
    (λ p. p.0),
  )
  typed_value (domain.Subsets lo hi) (value.Set xs) = (
    (λ s. ((s.0, integers xs), (all_in_range lo hi xs).0 s.1)),
    (λ p. (p.0.0, (all_in_range lo hi xs).1 p.1)),
  )
  typed_value (domain.ElemSubsets set) (value.Set xs) = ((λ s. (s, elements set xs s.1)), (λ p. p.0))
  typed_value d v = ((λ h. absurd h), (λ p. absurd p.0))

  pub domain_typing : (d : Domain) (look : Look) (x : Name) → In sizes d (look x) ↔ (IsOf sizes (kind_of_domain d) (look x) × Holds sizes look (typing (Var x) d) [])
  domain_typing (domain.Range lo hi) look x = typed_value (domain.Range lo hi) (look x)
  domain_typing domain.Truth look x = typed_value domain.Truth (look x)
  domain_typing (domain.Elems set) look x = typed_value (domain.Elems set) (look x)
  domain_typing (domain.Subsets lo hi) look x = typed_value (domain.Subsets lo hi) (look x)
  domain_typing (domain.ElemSubsets set) look x = typed_value (domain.ElemSubsets set) (look x)
