-- One machine more of those of a controller.
use Rattle.std.proofs.Common.{◌≡◌, ℕ, ◌*◌, min, List, ◌∷◌, ◌++◌, append_assoc, Option, Some, None, slice_get, refl, sym, ap, ◌∙◌, arith}
use Rattle.std.proofs.lemmas.List.{map-append}
use Rattle.cb_term.specs.declared.name.Name.{Name}
use Rattle.cb_term.specs.declared.kind.Kind.{Kind}
use Rattle.cb_spec.specs.declared.system.Declared.{Declared}
use Rattle.cb_spec.specs.declared.system.Machine.{Machine}
use Rattle.cb_spec.specs.Domains.{kind_of_domain}
use Rattle.cb_obligations.specs.Counts.{branch_count}
use Rattle.cb_obligations.specs.Owed.{with_kinds}
use Rattle.cb_wp.proofs.BranchLemmas.{product_least}
use Rattle.cb_conditions.specs.Conditions.{if_there, listed, variables_of, beginnings}
use Rattle.cb_starts.specs.Starts.{own_variables, own_branches}

kinds_there : (o : Option Machine) (ms : List Machine) → with_kinds (variables_of (if_there o ms)) ≡ with_kinds (own_variables o) ++ with_kinds (variables_of ms)
kinds_there None ms = refl
kinds_there (Some m) ms = map-append (λ (d : Declared). (d.name, kind_of_domain d.domain)) m.variables (variables_of ms)

pub kinds_step : (ms : List Machine) (left rest : List ℕ) (k : ℕ) (old new whole : List (Name × Kind)) → left ≡ k ∷ rest →
    new ≡ old ++ with_kinds (own_variables (slice_get ms k)) → old ++ with_kinds (variables_of (listed ms left)) ≡ whole →
    new ++ with_kinds (variables_of (listed ms rest)) ≡ whole
kinds_step ms left rest k old new whole is is_new so_far =
    ap (λ l. l ++ with_kinds (variables_of (listed ms rest))) is_new
    ∙ append_assoc old (with_kinds (own_variables (slice_get ms k))) (with_kinds (variables_of (listed ms rest)))
    ∙ ap (λ l. old ++ l) (sym (kinds_there (slice_get ms k) (listed ms rest)))
    ∙ ap (λ l. old ++ with_kinds (variables_of (listed ms l))) (sym is) ∙ so_far

-- ---- products that are cut at 257

cut_left : (a b : ℕ) → min (min a 257 * b) 257 ≡ min (a * b) 257
cut_left a b =
    sym (product_least (min a 257) b) ∙ ap (λ n. min (n * min b 257) 257) (twice a) ∙ product_least a b
  where
    twice : (n : ℕ) → min (min n 257) 257 ≡ min n 257
    twice n = omega arith

cut_right : (a b : ℕ) → min (a * min b 257) 257 ≡ min (a * b) 257
cut_right a b = ap (λ n. min n 257) (swapped a (min b 257)) ∙ cut_left b a ∙ ap (λ n. min n 257) (swapped b a)
  where
    swapped : (m n : ℕ) → m * n ≡ n * m
    swapped m n = omega arith

branches_there : (o : Option Machine) (ms : List Machine) → branch_count (beginnings (if_there o ms)) ≡ own_branches o * branch_count (beginnings ms)
branches_there None ms = one (branch_count (beginnings ms))
  where
    one : (n : ℕ) → n ≡ 1 * n
    one n = omega arith
branches_there (Some m) ms = refl

pub branches_step : (ms : List Machine) (left rest : List ℕ) (k count new whole : ℕ) → left ≡ k ∷ rest →
    new ≡ min (count * min (own_branches (slice_get ms k)) 257) 257 → min (count * branch_count (beginnings (listed ms left))) 257 ≡ whole →
    min (new * branch_count (beginnings (listed ms rest))) 257 ≡ whole
branches_step ms left rest k count new whole is is_new so_far =
    ap (λ n. min (n * branch_count (beginnings (listed ms rest))) 257) is_new
    ∙ cut_left (count * min (own_branches (slice_get ms k)) 257) (branch_count (beginnings (listed ms rest)))
    ∙ ap (λ n. min n 257) (moved count (min (own_branches (slice_get ms k)) 257) (branch_count (beginnings (listed ms rest))))
    ∙ cut_right (count * branch_count (beginnings (listed ms rest))) (own_branches (slice_get ms k))
    ∙ ap (λ n. min n 257) (back count (own_branches (slice_get ms k)) (branch_count (beginnings (listed ms rest))))
    ∙ ap (λ n. min (count * n) 257) (sym (branches_there (slice_get ms k) (listed ms rest)))
    ∙ ap (λ l. min (count * branch_count (beginnings (listed ms l))) 257) (sym is) ∙ so_far
  where
    moved : (a b d : ℕ) → a * b * d ≡ a * d * b
    moved a b d = omega arith

    back : (a b d : ℕ) → a * d * b ≡ a * (b * d)
    back a b d = omega arith
