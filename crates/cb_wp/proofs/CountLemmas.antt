-- Counting through two lists, one after the other.
use Rattle.std.proofs.Common.{◌≡◌, ℕ, ◌+◌, min, ltb, leb, Bool, true, false, List, [], ◌∷◌, ◌++◌, flat_map, append_assoc, refl, sym, ap, ◌∙◌, if◌then◌else◌, length, drop, arith, zero, suc, ◌≤◌, ◌<◌}
use Rattle.std.proofs.lemmas.Bool.{lt-ltb, le-ltb}
use Rattle.cb_term.specs.declared.name.Name.{Name}
use Rattle.cb_term.specs.declared.kind.Kind.{Kind}
use Rattle.cb_term.specs.Tree.{FormulaTree, Implies}
use Rattle.cb_obligations.specs.Pieces.{conjuncts, with_opened}
use Rattle.cb_wp.specs.declared.limits.Which.{Which}
use Rattle.cb_wp.specs.declared.limits.Which.TheVariants as which
use Rattle.cb_wp.specs.declared.limits.MakeFault.{MakeFault}
use Rattle.cb_wp.specs.declared.limits.MakeFault.TheVariants as fault
use Rattle.cb_wp.specs.declared.limits.Used.{Used}
use Rattle.cb_term.specs.Size.{term_nodes}
use Rattle.cb_obligations.specs.Steps.{Step, Reach, Weigh, Make, steps_under}
use Rattle.cb_wp.specs.Limits.{formulas_nodes, claim_nodes, Count, Passed, At, count, Faulted}

-- what comes after the first list
abbrev pub on : Count → List Step → Count
on (Passed w) qs = Passed w
on (At o n) qs = count o n qs

pub count_append : (ps qs : List Step) (o n : ℕ) → count o n (ps ++ qs) ≡ on (count o n ps) qs
count_append [] qs o n = refl
count_append (Reach hyps ∷ ps) qs o n = by_test (ltb 20000 (formulas_nodes hyps)) (count_append ps qs o n)
  where
    by_test : (a : Bool) → count o n (ps ++ qs) ≡ on (count o n ps) qs →
        (if a then Passed which.Sequent else count o n (ps ++ qs)) ≡ on (if a then Passed which.Sequent else count o n ps) qs
    by_test true e = refl
    by_test false e = e
count_append (Weigh t ∷ ps) qs o n = by_test (ltb 20000 (term_nodes t)) (count_append ps qs o n)
  where
    by_test : (a : Bool) → count o n (ps ++ qs) ≡ on (count o n ps) qs →
        (if a then Passed which.Sequent else count o n (ps ++ qs)) ≡ on (if a then Passed which.Sequent else count o n ps) qs
    by_test true e = refl
    by_test false e = e
count_append (Make p ∷ ps) qs o n = by_tests (leb 4096 o) (ltb 20000 (claim_nodes p)) (ltb 4000000 (n + claim_nodes p)) (count_append ps qs (o + 1) (n + claim_nodes p))
  where
    by_tests : (a b c : Bool) → count (o + 1) (n + claim_nodes p) (ps ++ qs) ≡ on (count (o + 1) (n + claim_nodes p) ps) qs →
        (if a then Passed which.Obligations else (if b then Passed which.Sequent else (if c then Passed which.Nodes else count (o + 1) (n + claim_nodes p) (ps ++ qs))))
        ≡ on (if a then Passed which.Obligations else (if b then Passed which.Sequent else (if c then Passed which.Nodes else count (o + 1) (n + claim_nodes p) ps))) qs
    by_tests true b c e = refl
    by_tests false true c e = refl
    by_tests false false true e = refl
    by_tests false false false e = e

pub count_after : (ps qs : List Step) (o n o' n' : ℕ) → count o n ps ≡ At o' n' → count o n (ps ++ qs) ≡ count o' n' qs
count_after ps qs o n o' n' e = count_append ps qs o n ∙ ap (λ c. on c qs) e

pub count_passed : (ps qs : List Step) (o n : ℕ) (w : Which) → count o n ps ≡ Passed w → count o n (ps ++ qs) ≡ Passed w
count_passed ps qs o n w e = count_append ps qs o n ∙ ap (λ c. on c qs) e

pub formulas_append : (fs gs : List FormulaTree) → formulas_nodes (fs ++ gs) ≡ formulas_nodes fs + formulas_nodes gs
formulas_append [] gs = omega arith
formulas_append (f ∷ fs) gs = omega (arith, formulas_append fs gs)

pub no_formula_left : (fs : List FormulaTree) (i : ℕ) → length fs ≤ i → formulas_nodes (drop i fs) ≡ 0
no_formula_left [] zero le = refl
no_formula_left [] (suc i) le = refl
no_formula_left (f ∷ fs) zero le = absurd (omega (arith, le))
no_formula_left (f ∷ fs) (suc i) le = no_formula_left fs i (omega (arith, le))

-- ---- the left side of `=>`

-- what is carried counts the hypotheses with the conjuncts added
pub carried_on : (hyps cs new : List FormulaTree) (before after : ℕ) → before ≡ min (formulas_nodes hyps) 18446744073709551615 →
    after ≡ min (before + formulas_nodes cs) 18446744073709551615 → new ≡ hyps ++ cs → after ≡ min (formulas_nodes new) 18446744073709551615
carried_on hyps cs new before after is_before is_after is_new = omega (arith, is_before, is_after, ap formulas_nodes is_new, formulas_append hyps cs)

reach_passed : (hyps : List FormulaTree) (steps : List Step) (o n : ℕ) → 20000 < formulas_nodes hyps → count o n (Reach hyps ∷ steps) ≡ Passed which.Sequent
reach_passed hyps steps o n above = ap (λ (b : Bool). if b then Passed which.Sequent else count o n steps) (lt-ltb 20000 (formulas_nodes hyps) above)

reach_on : (hyps : List FormulaTree) (steps : List Step) (o n : ℕ) → formulas_nodes hyps ≤ 20000 → count o n (Reach hyps ∷ steps) ≡ count o n steps
reach_on hyps steps o n within = ap (λ (b : Bool). if b then Passed which.Sequent else count o n steps) (le-ltb 20000 (formulas_nodes hyps) within)

pub implies_passed : (ys : List Name) (k : ℕ) (names : List (Name × Kind)) (hyps cs new : List FormulaTree) (a b : FormulaTree) (before after o n : ℕ) →
    cs ≡ conjuncts (with_opened ys a) → before ≡ min (formulas_nodes hyps) 18446744073709551615 →
    after ≡ min (before + formulas_nodes cs) 18446744073709551615 → new ≡ hyps ++ cs → 20000 < after →
    count o n (steps_under ys k names hyps (Implies a b)) ≡ Passed which.Sequent
implies_passed ys k names hyps cs new a b before after o n is_cs is_before is_after is_new above =
    ap (λ l. count o n (Reach l ∷ steps_under ys k names l b)) (ap (λ l. hyps ++ l) (sym is_cs) ∙ sym is_new)
    ∙ reach_passed new (steps_under ys k names new b) o n (omega (arith, above, carried_on hyps cs new before after is_before is_after is_new))

pub implies_on : (ys : List Name) (k : ℕ) (names : List (Name × Kind)) (hyps cs new : List FormulaTree) (a b : FormulaTree) (before after o n : ℕ) →
    cs ≡ conjuncts (with_opened ys a) → before ≡ min (formulas_nodes hyps) 18446744073709551615 →
    after ≡ min (before + formulas_nodes cs) 18446744073709551615 → new ≡ hyps ++ cs → after ≤ 20000 →
    count o n (steps_under ys k names hyps (Implies a b)) ≡ count o n (steps_under ys k names new b)
implies_on ys k names hyps cs new a b before after o n is_cs is_before is_after is_new within =
    ap (λ l. count o n (Reach l ∷ steps_under ys k names l b)) (ap (λ l. hyps ++ l) (sym is_cs) ∙ sym is_new)
    ∙ reach_on new (steps_under ys k names new b) o n (omega (arith, within, carried_on hyps cs new before after is_before is_after is_new))

-- ---- one element more of a list whose elements each have steps

pub count_step : {A : Type 0} (each : A → List Step) (x : A) (left rest : List A) (o n o' n' : ℕ) (whole : Count) → left ≡ x ∷ rest →
    count o n (each x) ≡ At o' n' → count o n (flat_map each left) ≡ whole → count o' n' (flat_map each rest) ≡ whole
count_step each x left rest o n o' n' whole is here so_far =
    sym (count_after (each x) (flat_map each rest) o n o' n' here) ∙ ap (λ l. count o n (flat_map each l)) (sym is) ∙ so_far

pub list_step : {A B : Type 0} (each : A → List B) (x : A) (left rest : List A) (all new whole : List B) → left ≡ x ∷ rest →
    new ≡ all ++ each x → all ++ flat_map each left ≡ whole → new ++ flat_map each rest ≡ whole
list_step each x left rest all new whole is is_new so_far =
    ap (λ l. l ++ flat_map each rest) is_new ∙ append_assoc all (each x) (flat_map each rest)
    ∙ ap (λ l. all ++ flat_map each l) (sym is) ∙ so_far

-- the fault of one element is that of what is left, and so of all
pub fault_step : {A : Type 0} (each : A → List Step) (x : A) (left rest whole : List A) (u v : Used) (e : MakeFault) → left ≡ x ∷ rest →
    count v.obligations v.nodes (flat_map each left) ≡ count u.obligations u.nodes (flat_map each whole) → Faulted e v (each x) → Faulted e u (flat_map each whole)
fault_step each x left rest whole u v (fault.Limit w) is so_far f =
    sym so_far ∙ ap (λ l. count v.obligations v.nodes (flat_map each l)) is ∙ count_passed (each x) (flat_map each rest) v.obligations v.nodes w f
fault_step each x left rest whole u v fault.Memory is so_far f = f

pub nothing_left : {A : Type 0} (l : List A) (i : ℕ) → length l ≤ i → drop i l ≡ []
nothing_left [] zero le = refl
nothing_left [] (suc i) le = refl
nothing_left (x ∷ xs) zero le = absurd (omega (arith, le))
nothing_left (x ∷ xs) (suc i) le = nothing_left xs i (omega (arith, le))
