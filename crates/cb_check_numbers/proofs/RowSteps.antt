-- Rows as they are taken one by one.
use Rattle.std.proofs.Common.{◌≡◌, ℕ, ◌+◌, ◌<◌, ◌≤◌, List, [], ◌∷◌, ◌++◌, length, get_or, drop, Option, Some, None, refl, ap, sym, ◌∙◌, append_assoc}
use Rattle.std.proofs.lemmas.List.{append-nil, at_drop_more, at_drop_all}
use Rattle.cb_lin.specs.Form.{Form, zero_form}
use Rattle.cb_seq.specs.declared.rule.Multiple.{Multiple}
use Rattle.cb_seq.specs.Validity.{Claim}
use Rattle.cb_check_numbers.specs.Linear.{row_taken, with_row, rows_taken, named, multipliers, refuted_by}
use Rattle.cb_check_numbers.specs.Counted.{multiple_counted}
use Rattle.cb_check_numbers.proofs.Refuted.{refuted_from, from_zero, same_refuted}

-- rows, put before others
abbrev pub prepend : List Form → Option (List Form) → Option (List Form)
prepend fs None = None
prepend fs (Some gs) = Some (fs ++ gs)

prepend_more : (fs : List Form) (g : Form) (o : Option (List Form)) → prepend fs (with_row (Some g) o) ≡ prepend (fs ++ g ∷ []) o
prepend_more fs g None = refl
prepend_more fs g (Some gs) = ap Some (sym (append_assoc fs (g ∷ []) gs))

module _ (sizes : List ℕ) (q : Claim) where
  -- what stands for the rows
  abbrev pub rows_counted : List Multiple → Option (List Form)
  rows_counted [] = Some []
  rows_counted (m ∷ ms) = with_row (multiple_counted sizes q m) (rows_counted ms)

  same_from : (f : Form) (ms : List Multiple) → refuted_from f (rows_counted ms) (multipliers ms) ≡ refuted_from f (rows_taken sizes q ms) (multipliers ms)
  same_from f [] = refl
  same_from f (m ∷ ms) =
      same_refuted f m.by (multipliers ms) (row_taken m.by (named sizes q m.row)) (rows_counted ms) (rows_taken sizes q ms) (λ g. same_from g ms)

  counted_refutes : (ms : List Multiple) (o : Option (List Form)) → o ≡ rows_counted ms → refuted_by o (multipliers ms) ≡ refuted_by (rows_taken sizes q ms) (multipliers ms)
  counted_refutes ms o e =
      ap (λ o. refuted_by o (multipliers ms)) e ∙ from_zero (rows_counted ms) (multipliers ms) ∙ same_from zero_form ms ∙ sym (from_zero (rows_taken sizes q ms) (multipliers ms))

  module _ (fs : List Form) (ms : List Multiple) (i : ℕ) (so_far : prepend fs (rows_counted (drop i ms)) ≡ rows_counted ms) where
    next : (d : Multiple) (o : Option Form) → i < length ms → o ≡ multiple_counted sizes q (get_or ms i d) → prepend fs (with_row o (rows_counted (drop (i + 1) ms))) ≡ rows_counted ms
    next d o l e =
        ap (λ o. prepend fs (with_row o (rows_counted (drop (i + 1) ms)))) e ∙ sym (at_drop_more (λ rest. prepend fs (rows_counted rest)) ms i d l) ∙ so_far

    pub one_more : (d : Multiple) (g : Form) → i < length ms → Some g ≡ multiple_counted sizes q (get_or ms i d) → prepend (fs ++ g ∷ []) (rows_counted (drop (i + 1) ms)) ≡ rows_counted ms
    one_more d g l e = sym (prepend_more fs g (rows_counted (drop (i + 1) ms))) ∙ next d (Some g) l e

    pub none_left : (d : Multiple) → i < length ms → None ≡ multiple_counted sizes q (get_or ms i d) → refuted_by None (multipliers ms) ≡ refuted_by (rows_taken sizes q ms) (multipliers ms)
    none_left d l e = counted_refutes ms None (next d None l e)

    pub all_taken : length ms ≤ i → refuted_by (Some fs) (multipliers ms) ≡ refuted_by (rows_taken sizes q ms) (multipliers ms)
    all_taken l =
        counted_refutes ms (Some fs) (sym (ap Some (append-nil fs)) ∙ sym (at_drop_all (λ rest. prepend fs (rows_counted rest)) ms i l) ∙ so_far)
