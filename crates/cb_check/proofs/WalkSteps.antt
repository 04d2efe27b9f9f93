-- Steps of the walk.
use Rattle.std.proofs.Common.{◌≡◌, ℕ, zero, suc, ◌+◌, ◌<◌, ◌≤◌, Bool, true, false, List, [], ◌∷◌, ◌++◌, length, drop, get_or, Option, Some, None, refl, ap, sym, ◌∙◌, arith, ◌⊎◌, inl, inr}
use Rattle.std.specs.Prelude.{if◌then◌else◌, min, ◌-◌, ◌^◌, nat_le, ◌&&◌, slice_get}
use Rattle.std.specs.List.{remove}
use Rattle.std.proofs.lemmas.List.{drop_more, drop_all}
use Rattle.std.proofs.lemmas.Option.{same_Some}
use Rattle.cb_term.specs.Tree.{FormulaTree}
use Rattle.cb_term.specs.Size.{formula_nodes}
use Rattle.cb_seq.specs.declared.rule.Rule.{Rule}
use Rattle.cb_seq.specs.declared.premise.Premise.{Premise}
use Rattle.cb_seq.specs.Tree.{CertTree, Node, CertTrees, End, More, certs_of}
use Rattle.cb_seq.specs.Size.{cert_nodes, certs_nodes}
use Rattle.cb_seq.specs.Validity.{Claim}
use Rattle.cb_seq.specs.Premises.{premise_of, or_goal, Outcome}
use Rattle.cb_check.specs.Derives.{formulas_nodes, claim_nodes, are_small, premises, are_as_many, first_number, bad_node, first_bad, first_bad_child}
use Rattle.cb_check.specs.declared.premises.Counts.{Counts}
use Rattle.cb_check.specs.declared.walk.Way.{Way}
use Rattle.cb_check.specs.Ways.{capped, claim_on, AreCounts, IsAsBefore}

-- ---- counts

pub nodes_of_both : (fs gs : List FormulaTree) → formulas_nodes (fs ++ gs) ≡ formulas_nodes fs + formulas_nodes gs
nodes_of_both [] gs = omega arith
nodes_of_both (f ∷ fs) gs = omega (arith, nodes_of_both fs gs)

pub counted_all : (fs : List FormulaTree) (i n : ℕ) → length fs ≤ i → n ≤ 2 ^ 64 - 1 → capped (n + formulas_nodes (drop i fs)) ≡ capped (formulas_nodes fs) → n ≡ capped (formulas_nodes fs)
counted_all fs i n h k e =
    let d : formulas_nodes (drop i fs) ≡ 0 = rw (drop_all i fs h) refl in
    omega (arith, d, e)

pub small_more : (q : Claim) (ps : List Premise) (i : ℕ) (p : Premise) → i < length ps →
    are_small q (drop i ps) ≡ (nat_le (claim_nodes (premise_of q (get_or ps i p))) 40000 && are_small q (drop (i + 1) ps))
small_more q ps i p h = rw (drop_more ps i p h) refl

-- ---- the way

same_claim : (v w : Way) (g : FormulaTree) → IsAsBefore v w → claim_on v g ≡ claim_on w g
same_claim v w g k = rw (k.0, k.1) refl

-- the claim inside a premise of the node
pub inner_claim : (v w e : Way) (g a : FormulaTree) (other : Option FormulaTree) (p : Premise) → IsAsBefore v w → a ≡ or_goal g other →
    claim_on e (or_goal g other) ≡ premise_of (claim_on w g) p → claim_on e a ≡ premise_of (claim_on v g) p
inner_claim v w e g a other p k ea c = rw ea (c ∙ ap (λ r. premise_of r p) (sym (same_claim v w g k)))

pub counts_at : (n : Counts) (q r : Claim) → q ≡ r → AreCounts n r → AreCounts n q
counts_at n q r e k = rw e k

-- ---- nodes and their children

-- how many nodes stand before these last children
abbrev pub before : CertTree → List CertTree → ℕ
before c cs = cert_nodes c - certs_nodes (certs_of cs)

count_same : (cs : List CertTree) (ps : List Premise) → length ps ≡ length cs → are_as_many (certs_of cs) ps ≡ true
count_same [] [] e = refl
count_same [] (p ∷ ps) e = absurd (omega arith)
count_same (c ∷ cs) [] e = absurd (omega arith)
count_same (c ∷ cs) (p ∷ ps) e = count_same cs ps (omega arith)

count_apart : (cs : List CertTree) (ps : List Premise) → (length ps ≡ length cs → ⊥) → are_as_many (certs_of cs) ps ≡ false
count_apart [] [] n = absurd (n refl)
count_apart [] (p ∷ ps) n = refl
count_apart (c ∷ cs) [] n = refl
count_apart (c ∷ cs) (p ∷ ps) n = count_apart cs ps (λ e. n (ap suc e))

module _ (sizes : List ℕ) (r : Rule) (cs : List CertTree) (q : Claim) (ps : List Premise) (o : premises sizes r q ≡ Some ps) where
  pub miscounted : (length ps ≡ length cs → ⊥) → first_bad sizes (Node r (certs_of cs)) q ≡ Some 1
  miscounted n = rw (o, count_apart cs ps n) refl

  pub begun : length ps ≡ length cs → first_bad sizes (Node r (certs_of cs)) q ≡ first_number None (before (Node r (certs_of cs)) cs) (first_bad_child sizes (certs_of cs) q ps)
  begun e =
      let one : before (Node r (certs_of cs)) cs ≡ 1 = omega arith in
      rw one (rw (o, count_same cs ps e) refl)

pub unmet : (sizes : List ℕ) (r : Rule) (cs : CertTrees) (q : Claim) → premises sizes r q ≡ None → first_bad sizes (Node r cs) q ≡ Some 1
unmet sizes r cs q n = rw n refl

counted_on : (n k : ℕ) (o : Option ℕ) → first_number None n (first_number None k o) ≡ first_number None (n + k) o
counted_on n k None = refl
counted_on n k (Some m) = ap Some (omega arith)

first_of : (ps : List Premise) (p : Premise) → slice_get ps 0 ≡ Some p → ps ≡ p ∷ remove ps 0
first_of [] p e = cc
first_of (x ∷ xs) p e = rw (same_Some _ _ e) refl

pub one_fewer : (ps : List Premise) (p : Premise) → slice_get ps 0 ≡ Some p → length ps ≡ length (remove ps 0) + 1
one_fewer [] p e = cc
one_fewer (x ∷ xs) p e = omega arith

module _ (sizes : List ℕ) (q : Claim) (cs : List CertTree) (i : ℕ) (c : CertTree) (hi : i < length cs) (hc : c ≡ get_or cs i c) where
  pub nodes_more : certs_nodes (certs_of (drop i cs)) ≡ cert_nodes c + certs_nodes (certs_of (drop (i + 1) cs))
  nodes_more = rw (drop_more cs i c hi, ← hc) refl

  module _ (ps : List Premise) (p : Premise) (hp : slice_get ps 0 ≡ Some p) where
    on_from : first_bad_child sizes (certs_of (drop i cs)) q ps
        ≡ first_number (first_bad sizes c (premise_of q p)) (cert_nodes c) (first_bad_child sizes (certs_of (drop (i + 1) cs)) q (remove ps 0))
    on_from = rw (drop_more cs i c hi, ← hc) (rw (first_of ps p hp) refl)

    pub fine_step : (n : ℕ) → first_bad sizes c (premise_of q p) ≡ None → first_number None n (first_bad_child sizes (certs_of (drop i cs)) q ps)
        ≡ first_number None (n + cert_nodes c) (first_bad_child sizes (certs_of (drop (i + 1) cs)) q (remove ps 0))
    fine_step n e = rw (on_from, e) (counted_on n (cert_nodes c) _)

    pub bad_step : (n k : ℕ) → first_bad sizes c (premise_of q p) ≡ Some k → first_number None n (first_bad_child sizes (certs_of (drop i cs)) q ps) ≡ Some (n + k)
    bad_step n k e = rw (on_from, e) refl
