-- The values of linear forms.
use Rattle.std.specs.Prelude.{◌≤ℤ◌}
use Rattle.std.proofs.Common.{◌≡◌, if◌then◌else◌, ℕ, ℤ, pos, negsuc, ◌+ℤ◌, ◌-ℤ◌, ◌*ℤ◌, neg_ℤ, Bool, true, false, cond, List, [], ◌∷◌, ◌++◌, refl, ap, sym, ◌∙◌, arith, subst}
use Rattle.std.proofs.lemmas.Int.{ints}
use Rattle.std.proofs.lemmas.Bool.Decides.{Decides-int_eq}
use Rattle.std.proofs.Math.IntN.{*ℤ_comm, zero-*ℤ, +ℤ_idl}
use Rattle.std.specs.Ordering.{int_eq}
use Rattle.cb_term.specs.declared.kind.Kind.TheVariants as kind
use Rattle.cb_term.specs.declared.value.Value.{Value}
use Rattle.cb_term.specs.declared.value.Value.TheVariants as value
use Rattle.cb_term.specs.declared.sign.TermSign.{TermSign}
use Rattle.cb_term.specs.declared.sign.TermSign.TheVariants.{Add, Minus, Mul}
use Rattle.cb_term.specs.Tree.{TermTree, Num, Neg, Bin}
use Rattle.cb_term.specs.Same.{same_term}
use Rattle.cb_term.specs.Values.{Look, bin, neg, IsOf}
use Rattle.cb_term.specs.Holds.{Meets, IsValue}
use Rattle.cb_term.proofs.HoldsLemmas.{IsStable, meets_at, meets_gives, by_value}
use Rattle.cb_term.proofs.ValueLemmas.{value_stable}
use Rattle.cb_term.proofs.SameLemmas.{same_meets}
use Rattle.cb_lin.specs.Form.{Form, zero_form, renewed_part, with_part, with_parts, sum_form, times_parts, times_form, product_form, form_of_term, summed}
use Rattle.cb_lin.specs.Laws.{parts_value, form_value, sum_value, NoneNegative, taken, AllAre, Respects, IsRight, FormHasValue, NumbersCanBeGiven, SumHasValue, SumIsNotNegative}
use Rattle.cb_lin.proofs.Products.{mul-add, add-mul, mul_assoc}
use Rattle.cb_lin.proofs.Sameness.{same_self, same_alike}

-- ---- sums and multiples of forms

module _ (number : TermTree → ℤ) (respects : Respects number) where
  renewed_value : (t : TermTree) (n : ℤ) (ps : List (TermTree × ℤ)) → parts_value number (renewed_part t n ps) ≡ n *ℤ number t +ℤ parts_value number ps
  renewed_value t n ps = by_test (int_eq n (pos 0)) refl
    where
      by_test : (b : Bool) → int_eq n (pos 0) ≡ b → parts_value number (cond b ps ((t, n) ∷ ps)) ≡ n *ℤ number t +ℤ parts_value number ps
      by_test true e = rw ((Decides-int_eq n (pos 0)).0 e, zero-*ℤ (number t)) (sym (+ℤ_idl _))
      by_test false e = refl

  with_part_value : (q : TermTree × ℤ) (ps : List (TermTree × ℤ)) → parts_value number (with_part q ps) ≡ q.1 *ℤ number q.0 +ℤ parts_value number ps
  with_part_value q [] = refl
  with_part_value q (p ∷ ps) = by_test (with_part_value q ps) (same_term q.0 p.0) refl
    where
      by_test : parts_value number (with_part q ps) ≡ q.1 *ℤ number q.0 +ℤ parts_value number ps → (b : Bool) → same_term q.0 p.0 ≡ b →
          parts_value number (cond b (renewed_part p.0 (p.1 +ℤ q.1) ps) (p ∷ with_part q ps)) ≡ q.1 *ℤ number q.0 +ℤ (p.1 *ℤ number p.0 +ℤ parts_value number ps)
      by_test go true e = rw (renewed_value p.0 (p.1 +ℤ q.1) ps, respects q.0 p.0 e) (omega (arith, ints, add-mul p.1 q.1 (number p.0)))
      by_test go false e = omega (arith, ints, go)

  with_parts_value : (ps qs : List (TermTree × ℤ)) → parts_value number (with_parts ps qs) ≡ parts_value number ps +ℤ parts_value number qs
  with_parts_value ps [] = omega (arith, ints)
  with_parts_value ps (q ∷ qs) = omega (arith, ints, with_part_value q ps, with_parts_value (with_part q ps) qs)

  sum_form_value : (f g : Form) → form_value number (sum_form f g) ≡ form_value number f +ℤ form_value number g
  sum_form_value f g = omega (arith, ints, with_parts_value f.parts g.parts)

  times_parts_value : (k : ℤ) (ps : List (TermTree × ℤ)) → parts_value number (times_parts k ps) ≡ k *ℤ parts_value number ps
  times_parts_value k [] = omega (arith, ints)
  times_parts_value k (p ∷ ps) =
      omega (arith, ints, times_parts_value k ps, mul_assoc k p.1 (number p.0), mul-add k (p.1 *ℤ number p.0) (parts_value number ps))

  times_form_value : (k : ℤ) (f : Form) → form_value number (times_form k f) ≡ k *ℤ form_value number f
  times_form_value k f = by_test (int_eq k (pos 0)) refl
    where
      by_test : (b : Bool) → int_eq k (pos 0) ≡ b → form_value number (cond b zero_form (record { parts = times_parts k f.parts; constant = k *ℤ f.constant })) ≡ k *ℤ form_value number f
      by_test true e = rw ((Decides-int_eq k (pos 0)).0 e, zero-*ℤ (form_value number f)) refl
      by_test false e = omega (arith, ints, times_parts_value k f.parts, mul-add k (parts_value number f.parts) f.constant)

  sums_value : (f : Form) (gs : List Form) (ks : List ℤ) → form_value number (summed f gs ks) ≡ sum_value number (form_value number f) gs ks
  sums_value f [] ks = refl
  sums_value f (g ∷ gs) [] = refl
  sums_value f (g ∷ gs) (k ∷ ks) =
      sums_value (sum_form f (times_form k g)) gs ks
      ∙ ap (λ n. sum_value number n gs ks) (sum_form_value f (times_form k g) ∙ ap (λ n. form_value number f +ℤ n) (times_form_value k g))

  sums_at_least : (n : ℤ) (gs : List Form) (ks : List ℤ) → pos 0 ≤ℤ n → NoneNegative number gs ks → pos 0 ≤ℤ sum_value number n gs ks
  sums_at_least n [] ks h a = h
  sums_at_least n (g ∷ gs) [] h a = h
  sums_at_least n (g ∷ gs) (k ∷ ks) h a =
      let more : pos 0 ≤ℤ (n +ℤ (k *ℤ form_value number g)) = omega (arith, ints, a.0) in
      sums_at_least (n +ℤ (k *ℤ form_value number g)) gs ks more a.1

pub sum_has_value : SumHasValue
sum_has_value number f gs ks respects = sums_value number respects f gs ks

pub sum_is_not_negative : SumIsNotNegative
sum_is_not_negative number f gs ks respects h a =
    subst (λ n. pos 0 ≤ℤ n) (sym (sums_value number respects f gs ks)) (sums_at_least number respects (form_value number f) gs ks h a)

-- ---- terms

all_parts : (P : TermTree → Type 0) (ts us : List TermTree) → AllAre P (ts ++ us) → AllAre P ts × AllAre P us
all_parts P [] us a = (tt, a)
all_parts P (t ∷ ts) us a = let r = all_parts P ts us a.1 in ((a.0, r.0), r.1)

taken_first : (P : TermTree → Type 0) (t : TermTree) → AllAre P (taken t) → P t
taken_first P (Neg a) h = h.0
taken_first P (Bin Add a b) h = h.0
taken_first P (Bin Minus a b) h = h.0
taken_first P (Bin Mul a b) h = h.0
taken_first P t h = h.0

int_is : {x y : ℤ} → value.Int x ≡ value.Int y → x ≡ y
int_is e = cc (e)

module _ (sizes : List ℕ) (look : Look) (env : List Value) where
  value_is : (t : TermTree) (v w : Value) → IsValue sizes look t env v → IsValue sizes look t env w → v ≡ w
  value_is t v w hv hw = meets_gives sizes look t env v (λ u. u ≡ w) (value_stable v w) hv hw

  bin_value : (s : TermSign) (a b : TermTree) (u w : Value) → IsValue sizes look a env u → IsValue sizes look b env w → IsValue sizes look (Bin s a b) env (bin s u w)
  bin_value s a b u w hu hw =
      meets_at sizes look a env u (λ x. Meets sizes look b env (λ y. bin s x y ≡ bin s u w)) hu (meets_at sizes look b env w (λ y. bin s u y ≡ bin s u w) hw refl)

  neg_value : (a : TermTree) (u : Value) → IsValue sizes look a env u → IsValue sizes look (Neg a) env (neg u)
  neg_value a u hu = meets_at sizes look a env u (λ x. neg x ≡ neg u) hu refl

  module _ (number : TermTree → ℤ) (respects : Respects number) where
    -- the number of a term with two sides
    bin_number : (s : TermSign) (a b : TermTree) (n : ℤ) → bin s (value.Int (number a)) (value.Int (number b)) ≡ value.Int n →
        IsRight sizes look env number (Bin s a b) → IsRight sizes look env number a → IsRight sizes look env number b → number (Bin s a b) ≡ n
    bin_number s a b n e r ra rb =
        int_is (value_is (Bin s a b) (value.Int (number (Bin s a b))) (bin s (value.Int (number a)) (value.Int (number b))) r
        (bin_value s a b (value.Int (number a)) (value.Int (number b)) ra rb) ∙ e)

    product_value : (t : TermTree) (f g : Form) (ps qs : List (TermTree × ℤ)) → f.parts ≡ ps → g.parts ≡ qs →
        number t ≡ form_value number f *ℤ form_value number g → form_value number (product_form t f g ps qs) ≡ number t
    product_value t f g ps [] ef eg v =
        let w : form_value number g ≡ g.constant = rw eg (+ℤ_idl _) in
        times_form_value number respects g.constant f ∙ *ℤ_comm g.constant (form_value number f) ∙ ap (λ z. form_value number f *ℤ z) (sym w) ∙ sym v
    product_value t f g [] (q ∷ qs) ef eg v =
        let w : form_value number f ≡ f.constant = rw ef (+ℤ_idl _) in
        times_form_value number respects f.constant g ∙ ap (λ z. z *ℤ form_value number g) (sym w) ∙ sym v
    product_value t f g (p ∷ ps) (q ∷ qs) ef eg v = omega (arith, ints)

    term_value : (t : TermTree) → AllAre (IsRight sizes look env number) (taken t) → form_value number (form_of_term t) ≡ number t
    term_value (Num n) r = +ℤ_idl n ∙ int_is r.0
    term_value (Neg a) r =
        let ra = taken_first (IsRight sizes look env number) a r.1 in
        let e : value.Int (number (Neg a)) ≡ neg (value.Int (number a)) = value_is (Neg a) (value.Int (number (Neg a))) (neg (value.Int (number a))) r.0 (neg_value a (value.Int (number a)) ra) in
        let n : number (Neg a) ≡ neg_ℤ (number a) = int_is e in
        omega (arith, ints, n, times_form_value number respects (negsuc 0) (form_of_term a), term_value a r.1)
    term_value (Bin Add a b) r =
        let p = all_parts (IsRight sizes look env number) (taken a) (taken b) r.1 in
        let n = bin_number Add a b (number a +ℤ number b) refl r.0 (taken_first (IsRight sizes look env number) a p.0) (taken_first (IsRight sizes look env number) b p.1) in
        omega (arith, ints, n, sum_form_value number respects (form_of_term a) (form_of_term b), term_value a p.0, term_value b p.1)
    term_value (Bin Minus a b) r =
        let p = all_parts (IsRight sizes look env number) (taken a) (taken b) r.1 in
        let n = bin_number Minus a b (number a -ℤ number b) refl r.0 (taken_first (IsRight sizes look env number) a p.0) (taken_first (IsRight sizes look env number) b p.1) in
        omega (arith, ints, n, sum_form_value number respects (form_of_term a) (times_form (negsuc 0) (form_of_term b)), times_form_value number respects (negsuc 0) (form_of_term b), term_value a p.0, term_value b p.1)
    term_value (Bin Mul a b) r =
        let p = all_parts (IsRight sizes look env number) (taken a) (taken b) r.1 in
        let n = bin_number Mul a b (number a *ℤ number b) refl r.0 (taken_first (IsRight sizes look env number) a p.0) (taken_first (IsRight sizes look env number) b p.1) in
        product_value (Bin Mul a b) (form_of_term a) (form_of_term b) (form_of_term a).parts (form_of_term b).parts refl refl (rw (term_value a p.0, term_value b p.1) n)
    term_value t r = omega (arith, ints)

pub form_has_value : FormHasValue
form_has_value sizes look env number t respects r = term_value sizes look env number respects t r

-- ---- numbers for terms

-- the number of a value
whole : Value → ℤ
whole (value.Int x) = x
whole v = pos 0

no_stable : IsStable ⊥
no_stable h = h (λ e. e)

whole_of : (sizes : List ℕ) (v : Value) → IsOf sizes kind.Integer v → v ≡ value.Int (whole v)
unfolding whole
whole_of sizes (value.Int x) i = refl
whole_of sizes v i = absurd i

of_stable : (sizes : List ℕ) (v : Value) → IsStable (IsOf sizes kind.Integer v)
of_stable sizes (value.Int x) h = tt
of_stable sizes v h = h (λ e. e)

module _ (sizes : List ℕ) (look : Look) (env : List Value) where
  -- n for the terms that are the same as t, and else what was there
  abbrev given : TermTree → ℤ → (TermTree → ℤ) → TermTree → ℤ
  given t n number u = if same_term u t then n else number u

  given_respects : (t : TermTree) (n : ℤ) (number : TermTree → ℤ) → Respects number → Respects (given t n number)
  given_respects t n number r u w e = rw (same_alike u w t e) (ap (λ m. cond (same_term w t) n m) (r u w e))

  given_right : (t : TermTree) (n : ℤ) (number : TermTree → ℤ) (u : TermTree) → IsValue sizes look t env (value.Int n) →
      IsRight sizes look env number u → IsRight sizes look env (given t n number) u
  given_right t n number u is r = by_test (same_term u t) refl
    where
      by_test : (b : Bool) → same_term u t ≡ b → IsValue sizes look u env (value.Int (cond b n (number u)))
      by_test true e = (same_meets sizes look u t e env (λ v. v ≡ value.Int n)).1 is
      by_test false e = r

  given_all : (t : TermTree) (n : ℤ) (number : TermTree → ℤ) (us : List TermTree) → IsValue sizes look t env (value.Int n) →
      AllAre (IsRight sizes look env number) us → AllAre (IsRight sizes look env (given t n number)) us
  given_all t n number [] is a = tt
  given_all t n number (u ∷ us) is a = (given_right t n number u is a.0, given_all t n number us is a.1)

  given_here : (t : TermTree) (n : ℤ) (number : TermTree → ℤ) → IsValue sizes look t env (value.Int n) → IsRight sizes look env (given t n number) t
  given_here t n number is = subst (λ b. IsValue sizes look t env (value.Int (cond b n (number t)))) (sym (same_self t)) is

  can_be_given : (ts : List TermTree) → AllAre (λ t. Meets sizes look t env (IsOf sizes kind.Integer)) ts →
      ¬ ((number : TermTree → ℤ) → Respects number → ¬ AllAre (IsRight sizes look env number) ts)
  can_be_given [] a none = none (λ t. pos 0) (λ t u e. refl) tt
  can_be_given (t ∷ ts) a none =
      by_value sizes look t env ⊥ no_stable (λ v hv.
      let i = meets_gives sizes look t env v (IsOf sizes kind.Integer) (of_stable sizes v) hv a.0 in
      let is = subst (λ w. IsValue sizes look t env w) (whole_of sizes v i) hv in
      can_be_given ts a.1 (λ number r right.
      none (given t (whole v) number) (given_respects t (whole v) number r) (given_here t (whole v) number is, given_all t (whole v) number ts is right)))

pub numbers_can_be_given : NumbersCanBeGiven
numbers_can_be_given sizes look env ts a = can_be_given sizes look env ts a
