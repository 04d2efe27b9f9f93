-- What stands for rows adds up to what cannot be exactly where they do.
use Rattle.std.proofs.Common.{◌≡◌, ℤ, pos, Bool, true, false, ◌&&◌, List, ◌∷◌, Option, Some, None, refl, sym, ap, ◌∙◌}
use Rattle.std.specs.Ordering.{int_eq}
use Rattle.std.proofs.lemmas.Bool.{and_left, false_from_ne_true, both_ways}
use Rattle.cb_lin.specs.Form.{Form, zero_form, sum_form, times_form, summed}
use Rattle.cb_lin.specs.Small.{small_form, small_sums}
use Rattle.cb_check_numbers.specs.Linear.{with_row, cannot_be, refuted_by}
use Rattle.cb_check_numbers.specs.Counted.{counted}
use Rattle.cb_check_numbers.proofs.RowSums.{small_factor}

-- the rows are added to f
abbrev pub refuted_from : Form → Option (List Form) → List ℤ → Bool
refuted_from f None ks = false
refuted_from f (Some fs) ks = small_sums f fs ks && cannot_be (summed f fs ks)

pub from_zero : (o : Option (List Form)) (ks : List ℤ) → refuted_by o ks ≡ refuted_from zero_form o ks
from_zero None ks = refl
from_zero (Some fs) ks = refl

none_refutes : (a b : Bool) → false ≡ (a && (b && false))
none_refutes true true = refl
none_refutes true false = refl
none_refutes false b = refl

grouped : (a b c d : Bool) → ((a && (b && c)) && d) ≡ (a && (b && (c && d)))
grouped true true c d = refl
grouped true false c d = refl
grouped false b c d = refl

module _ (f : Form) (k : ℤ) (ks : List ℤ) where
  -- the scaled row, in the place of a row
  abbrev then_refuted : Form → Option (List Form) → Bool
  then_refuted h os = small_form h && (small_form (sum_form f h) && refuted_from (sum_form f h) os ks)

  with_refuted : (g : Form) (os : Option (List Form)) → refuted_from f (with_row (Some g) os) (k ∷ ks) ≡ then_refuted (times_form k g) os
  with_refuted g None = none_refutes (small_form (times_form k g)) (small_form (sum_form f (times_form k g)))
  with_refuted g (Some gs) =
      let h = times_form k g in
      grouped (small_form h) (small_form (sum_form f h)) (small_sums (sum_form f h) gs ks) (cannot_be (summed (sum_form f h) gs ks))

  pub same_refuted : (o : Option Form) (os qs : Option (List Form)) → ((g : Form) → refuted_from g os ks ≡ refuted_from g qs ks) →
      refuted_from f (with_row (counted k o) os) (k ∷ ks) ≡ refuted_from f (with_row o qs) (k ∷ ks)
  same_refuted None os qs rest = refl
  same_refuted (Some g) os qs rest = by (int_eq k (pos 0)) (small_form g) refl refl
    where
      then_same : (h : Form) → then_refuted h os ≡ then_refuted h qs
      then_same h = ap (λ b. small_form h && (small_form (sum_form f h) && b)) (rest (sum_form f h))

      none : times_form k zero_form ≡ times_form k g → refuted_from f (with_row (Some zero_form) os) (k ∷ ks) ≡ refuted_from f (with_row (Some g) qs) (k ∷ ks)
      none e = with_refuted zero_form os ∙ ap (λ h. then_refuted h os) e ∙ then_same (times_form k g) ∙ sym (with_refuted g qs)

      by : (z b : Bool) → int_eq k (pos 0) ≡ z → small_form g ≡ b → refuted_from f (with_row (counted k (Some g)) os) (k ∷ ks) ≡ refuted_from f (with_row (Some g) qs) (k ∷ ks)
      by true b ez eb =
          let e : times_form k zero_form ≡ times_form k g = rw ez refl in
          rw ez (none e)
      by false true ez eb = rw (ez, eb) (with_refuted g os ∙ then_same (times_form k g) ∙ sym (with_refuted g qs))
      by false false ez eb =
          let big : small_form (times_form k g) ≡ false = false_from_ne_true (small_form (times_form k g)) (λ t. both_ways (small_form g) eb (small_factor k g ez t)) in
          rw (ez, eb) (sym (with_refuted g qs ∙ and_left (small_form (times_form k g)) _ big))
