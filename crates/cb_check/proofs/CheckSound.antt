-- What a certificate derives is valid; and it derives a claim exactly where it has no bad node.
use Rattle.std.proofs.Common.{◌≡◌, ℕ, ◌+◌, Bool, true, false, List, [], ◌∷◌, Option, Some, None, refl, sym}
use Rattle.std.specs.Prelude.{◌&&◌, if◌then◌else◌, ◌↔◌}
use Rattle.std.proofs.lemmas.Option.{same_Some}
use Rattle.cb_seq.specs.declared.rule.Rule.{Rule}
use Rattle.cb_seq.specs.declared.premise.Premise.{Premise}
use Rattle.cb_seq.specs.Tree.{CertTree, Node, CertTrees, End, More}
use Rattle.cb_seq.specs.Arguments.{arguments_fit, rule_among}
use Rattle.cb_seq.specs.Validity.{Claim, Valid, AllValid, Kinded, AllKinded}
use Rattle.cb_seq.specs.Premises.{premise_of, premises_of, Outcome, only_where, Carry, Sound}
use Rattle.cb_check_logic.specs.LogicRules.{logic_premises}
use Rattle.cb_check_logic.specs.Laws.{LogicRulesAreSound}
use Rattle.cb_check_names.specs.NameRules.{name_premises}
use Rattle.cb_check_names.specs.Laws.{NameRulesAreSound}
use Rattle.cb_check_numbers.specs.NumberRules.{number_premises}
use Rattle.cb_check_numbers.specs.Laws.{NumberRulesAreSound}
use Rattle.cb_check_sets.specs.SetRules.{set_premises}
use Rattle.cb_check_sets.specs.Laws.{SetRulesAreSound}
use Rattle.cb_check.specs.Derives.{are_small, if_small, or_else, rule_premises, told_premises, premises, Derives, DeriveAll, are_as_many, first_number, bad_node, first_bad, first_bad_child}
use Rattle.cb_check.specs.Laws.{DerivedIsValid, DerivesWithoutBad}

-- ---- rules

-- what applies is one of the two
one_of : (a b : Outcome) (ps : List Premise) → or_else a b ≡ Some ps → (P : Type 0) → (a ≡ Some ps → P) → (b ≡ Some ps → P) → P
one_of None b ps e P f g = g e
one_of (Some qs) b ps e P f g = f e

small_only : (q : Claim) (o : Outcome) (ps : List Premise) → if_small q o ≡ Some ps → o ≡ Some ps
small_only q None ps e = cc
small_only q (Some qs) ps e = by_test (are_small q qs) e
  where
    by_test : (b : Bool) → only_where b qs ≡ Some ps → Some qs ≡ Some ps
    by_test true e = e
    by_test false e = cc

fit_only : (b : Bool) (o : Outcome) (ps : List Premise) → (if b then o else None) ≡ Some ps → (b ≡ true) × (o ≡ Some ps)
fit_only true o ps e = (refl, e)
fit_only false o ps e = cc

module _ (logic : LogicRulesAreSound) (names : NameRulesAreSound) (numbers : NumberRulesAreSound) (sets : SetRulesAreSound) where
  carried : (sizes : List ℕ) (r : Rule) (q : Claim) (ps : List Premise) → told_premises sizes r q ≡ Some ps → Kinded sizes q → Carry sizes q ps
  carried sizes r q ps e k =
      let f = fit_only (arguments_fit sizes q.names r) (if_small q (rule_premises sizes r q)) ps e in
      one_of (logic_premises sizes r q) _ ps (small_only q (rule_premises sizes r q) ps f.1) (Carry sizes q ps) (λ o. logic sizes r q ps o f.0 k)
      (λ o. one_of (name_premises sizes r q) _ ps o (Carry sizes q ps) (λ o. names sizes r q ps o f.0 k)
      (λ o. one_of (number_premises sizes r q) (set_premises sizes r q) ps o (Carry sizes q ps) (λ o. numbers sizes r q ps o f.0 k)
      (λ o. sets sizes r q ps o f.0 k)))

  -- ---- certificates

  mutual
    pub derived_valid : DerivedIsValid
    derived_valid sizes (Node r cs) q k d =
        let c = carried sizes (rule_among sizes q.names r) q d.0 d.1 k in
        c.1 (all_valid sizes cs q d.0 c.0 d.2)

    all_valid : (sizes : List ℕ) (cs : CertTrees) (q : Claim) (ps : List Premise) → AllKinded sizes (premises_of q ps) → DeriveAll sizes cs q ps → AllValid sizes (premises_of q ps)
    all_valid sizes End q [] k d = tt
    all_valid sizes End q (p ∷ ps) k d = absurd d
    all_valid sizes (More c cs) q [] k d = absurd d
    all_valid sizes (More c cs) q (p ∷ ps) k d = (derived_valid sizes c (premise_of q p) k.0 d.0, all_valid sizes cs q ps k.1 d.1)

-- ---- bad nodes

first_none : (a : Option ℕ) (n : ℕ) (b : Option ℕ) → first_number a n b ≡ None → (a ≡ None) × (b ≡ None)
first_none (Some k) n b e = cc
first_none None n None e = (refl, refl)
first_none None n (Some k) e = cc

none_bad : (o : Outcome) (fit : List Premise → Bool) (go : List Premise → Option ℕ) → bad_node o fit go ≡ None → (ps : List Premise) × (o ≡ Some ps) × (fit ps ≡ true) × (go ps ≡ None)
none_bad None fit go e = cc
none_bad (Some ps) fit go e = by_test (fit ps) refl e
  where
    by_test : (b : Bool) → fit ps ≡ b → (if b then first_number None 1 (go ps) else Some 1) ≡ None → (qs : List Premise) × (Some ps ≡ Some qs) × (fit qs ≡ true) × (go qs ≡ None)
    by_test true f e = (ps, refl, f, (first_none None 1 (go ps) e).1)
    by_test false f e = cc

module _ (sizes : List ℕ) where
  mutual
    none_derives : (c : CertTree) (q : Claim) → first_bad sizes c q ≡ None → Derives sizes c q
    none_derives (Node r cs) q e =
        let p = none_bad (premises sizes r q) (are_as_many cs) (first_bad_child sizes cs q) e in
        (p.0, p.1, none_derive_all cs q p.0 p.2 p.3)

    none_derive_all : (cs : CertTrees) (q : Claim) (ps : List Premise) → are_as_many cs ps ≡ true → first_bad_child sizes cs q ps ≡ None → DeriveAll sizes cs q ps
    none_derive_all End q [] t e = tt
    none_derive_all End q (p ∷ ps) t e = cc
    none_derive_all (More c cs) q [] t e = cc
    none_derive_all (More c cs) q (p ∷ ps) t e =
        let f = first_none (first_bad sizes c (premise_of q p)) _ (first_bad_child sizes cs q ps) e in
        (none_derives c (premise_of q p) f.0, none_derive_all cs q ps t f.1)

  mutual
    derives_none : (c : CertTree) (q : Claim) → Derives sizes c q → first_bad sizes c q ≡ None
    derives_none (Node r cs) q d =
        let a = derive_all_none cs q d.0 d.2 in
        rw (d.1, a.0, a.1) refl

    derive_all_none : (cs : CertTrees) (q : Claim) (ps : List Premise) → DeriveAll sizes cs q ps → (are_as_many cs ps ≡ true) × (first_bad_child sizes cs q ps ≡ None)
    derive_all_none End q [] d = (refl, refl)
    derive_all_none End q (p ∷ ps) d = absurd d
    derive_all_none (More c cs) q [] d = absurd d
    derive_all_none (More c cs) q (p ∷ ps) d =
        let a = derive_all_none cs q ps d.1 in
        (a.0, rw (derives_none c (premise_of q p) d.0, a.1) refl)

pub without_bad : DerivesWithoutBad
without_bad sizes c q = (derives_none sizes c q, none_derives sizes c q)

pub derives_of_none : (sizes : List ℕ) (c : CertTree) (q : Claim) → first_bad sizes c q ≡ None → Derives sizes c q
derives_of_none sizes c q = none_derives sizes c q
