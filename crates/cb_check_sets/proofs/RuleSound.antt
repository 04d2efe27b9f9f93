-- The rules on sets and elements are sound.
use Rattle.std.proofs.Common.{◌≡◌, ℕ, zero, suc, ◌+◌, ◌<◌, ◌≤◌, ◌&&◌, Bool, true, false, List, [], ◌∷◌, Option, Some, None, refl, sym, ap, ap₂, ◌∙◌, subst, arith, if◌then◌else◌, true≢false}
use Rattle.std.specs.Prelude.{nat_lt, codes, is_some}
use Rattle.std.proofs.lemmas.Bool.{and_parts, and_from, eq-eqb, ltb-true, ltb-false, lt-ltb}
use Rattle.std.proofs.lemmas.Option.{same_Some}
use Rattle.cb_term.specs.declared.name.Name.{Name}
use Rattle.cb_term.specs.declared.kind.Kind.{Kind}
use Rattle.cb_term.specs.declared.kind.Kind.TheVariants as kind
use Rattle.cb_term.specs.declared.kind.Base.{Base}
use Rattle.cb_term.specs.Kinds.{same_base}
use Rattle.cb_term.proofs.ValueLemmas.{same_base_tells}
use Rattle.cb_term.specs.declared.sign.RelSign.TheVariants.{Equal, Member, Subset}
use Rattle.cb_term.specs.declared.value.Value.TheVariants as value
use Rattle.cb_term.specs.Tree.{TermTree, Var, Elem, FormulaTree, Rel, Not, Implies}
use Rattle.cb_term.specs.Values.{Look, IsOf, set_at, size_of_set}
use Rattle.cb_term.specs.Holds.{Holds, IsValue}
use Rattle.cb_term.proofs.HoldsLemmas.{holds_stable}
use Rattle.cb_seq.specs.declared.rule.TermArgument.{TermArgument}
use Rattle.cb_seq.specs.declared.rule.TermArgument.TheVariants as term
use Rattle.cb_seq.specs.declared.rule.Rule.{Rule}
use Rattle.cb_seq.specs.declared.rule.Rule.TheVariants as rule
use Rattle.cb_seq.specs.declared.premise.Premise.{Premise}
use Rattle.cb_seq.specs.Kinds.{kind_of, fits, Gives, rel_kinds, common_set, card_kind}
use Rattle.cb_seq.specs.Arguments.{term_fits}
use Rattle.cb_seq.specs.Validity.{Claim, AllHold, AllValid, Kinded, AllKinded}
use Rattle.cb_seq.specs.Premises.{hypothesis, fresh, proving, adding, premises_of, Carry, Sound}
use Rattle.cb_seq.proofs.KindLemmas.{both_true}
use Rattle.cb_seq.proofs.KindSound.{IsSetKind}
use Rattle.cb_seq.proofs.MoreNames.{fresh_is_new, gives_more, unused_term, at_self}
use Rattle.cb_seq.proofs.PremiseLemmas.{only_tells, hypothesis_holds, hypothesis_fits, adds_valid, adds_kinded, opens_valid, opens_kinded, is_kind_tells, valued, rel_holds}
use Rattle.cb_check_sets.specs.Members.{membership}
use Rattle.cb_check_sets.specs.SetRules.{is_set, is_item_of, item_kind, shown_as, member_right, known_as, member_left, each_item, subset_right, subset_left, extension, card_not_negative, card_added, card_removed, card_within, each_element, elements, set_premises}
use Rattle.cb_check_sets.proofs.MemberLemmas.{by_elem, is_some_tells, member_holds, member_iff}
use Rattle.cb_check_sets.proofs.SetKinds.{rel_fits, card_fits, added_fits, removed_fits, sizes_fit, opened_fits, membership_fits}
use Rattle.cb_check_sets.proofs.SetFacts.{size_not_negative, size_added, size_removed, size_within, subset_member, subset_from, equal_from}

no_premises : {A : Type 0} {x : A} → None ≡ Some x → ⊥
no_premises e = cc

not_so : false ≡ true → ⊥
not_so e = true≢false (sym e)

shown_tells : (o : Option FormulaTree) (ps : List Premise) → shown_as o ≡ Some ps → (f : FormulaTree) × (o ≡ Some f) × ((proving f ∷ []) ≡ ps)
shown_tells None ps e = absurd (no_premises e)
shown_tells (Some f) ps e = (f, refl, same_Some _ ps e)

known_tells : (o : Option FormulaTree) (ps : List Premise) → known_as o ≡ Some ps → (f : FormulaTree) × (o ≡ Some f) × ((adding (f ∷ []) ∷ []) ≡ ps)
known_tells None ps e = absurd (no_premises e)
known_tells (Some f) ps e = (f, refl, same_Some _ ps e)

item_tells : (k : Kind) (o : Option Kind) → is_item_of k o ≡ true → (l : Kind) × (o ≡ Some l) × (rel_kinds Member k l ≡ true)
item_tells k None e = absurd (not_so e)
item_tells k (Some l) e = (l, refl, e)

set_tells : (sizes : List ℕ) (k : Kind) → is_set (Some k) ≡ true → IsSetKind sizes k × (card_kind k ≡ Some kind.Integer)
set_tells sizes (kind.SetOf b) e = (tt, refl)
set_tells sizes kind.EmptySet e = (tt, refl)
set_tells sizes k e = absurd (not_so e)

-- sets that may be compared by `=` may be by `<:`
equal_sets : (k l : Kind) → rel_kinds Equal k l ≡ true → is_set (Some k) ≡ true → is_some (common_set k l) ≡ true
equal_sets (kind.SetOf b) (kind.SetOf c) e s = e
equal_sets (kind.SetOf b) kind.EmptySet e s = e
equal_sets kind.EmptySet (kind.SetOf b) e s = e
equal_sets kind.EmptySet kind.EmptySet e s = e
equal_sets kind.Integer l e s = absurd (not_so s)
equal_sets kind.Truth l e s = absurd (not_so s)
equal_sets (kind.Elem j) l e s = absurd (not_so s)
equal_sets k l e s = absurd (not_so e)

same_base_back : (b c : Base) → same_base b c ≡ true → same_base c b ≡ true
same_base_back b c e = subst (λ z. same_base z b ≡ true) (same_base_tells b c e) (subst (λ z. same_base b z ≡ true) (sym (same_base_tells b c e)) e)

test_is_some : (b : Bool) (k : Kind) → is_some (if b then Some k else None) ≡ true → b ≡ true
test_is_some true k e = refl
test_is_some false k e = e

common_back : (k l : Kind) → is_some (common_set k l) ≡ true → is_some (common_set l k) ≡ true
common_back (kind.SetOf b) (kind.SetOf c) e = ap (λ t. is_some (if t then Some (kind.SetOf c) else None)) (same_base_back b c (test_is_some (same_base b c) (kind.SetOf b) e))
common_back (kind.SetOf b) kind.EmptySet e = refl
common_back kind.EmptySet (kind.SetOf b) e = refl
common_back kind.EmptySet kind.EmptySet e = refl
common_back k l e = absurd (not_so e)

module _ (sizes : List ℕ) (q : Claim) (kinded : Kinded sizes q) where
  abbrev Fits : FormulaTree → Type 0
  Fits f = fits sizes q.names [] f ≡ true

  abbrev H : Look → FormulaTree → Type 0
  H look f = Holds sizes look f []

  -- one premise with another goal
  proves : (f : FormulaTree) → Fits f → ((look : Look) → Gives sizes look q.names → H look f → H look q.goal) → Carry sizes q (proving f ∷ [])
  proves f fit go = (
    (adds_kinded sizes q (Some f) [] kinded fit tt, tt),
    (λ w look gives hyps. go look gives (adds_valid sizes q (Some f) [] w.0 look gives hyps tt)),
  )

  -- one premise with a further hypothesis
  adds : (f : FormulaTree) → Fits f → ((look : Look) → Gives sizes look q.names → AllHold sizes look q.hypotheses → H look f) → Carry sizes q (adding (f ∷ []) ∷ [])
  adds f fit go = (
    (adds_kinded sizes q None (f ∷ []) kinded kinded.goal (fit, tt), tt),
    (λ w look gives hyps. adds_valid sizes q None (f ∷ []) w.0 look gives hyps (go look gives hyps, tt)),
  )

  -- one premise that shows a formula, and one with a further hypothesis that follows from it
  proves_adds : (g f : FormulaTree) → Fits g → Fits f → ((look : Look) → Gives sizes look q.names → H look g → H look f) → Carry sizes q (proving g ∷ adding (f ∷ []) ∷ [])
  proves_adds g f fit_g fit_f go = (
    (adds_kinded sizes q (Some g) [] kinded fit_g tt, (adds_kinded sizes q None (f ∷ []) kinded kinded.goal (fit_f, tt), tt)),
    (λ w look gives hyps. adds_valid sizes q None (f ∷ []) w.1.0 look gives hyps (go look gives (adds_valid sizes q (Some g) [] w.0 look gives hyps tt), tt)),
  )

  hypothesis_is : (h : ℕ) (f : FormulaTree) → hypothesis q.hypotheses h ≡ Some f → Fits f × ((look : Look) → AllHold sizes look q.hypotheses → H look f)
  hypothesis_is h f e = (hypothesis_fits sizes q.names q.hypotheses h f e kinded.hypotheses, (λ look hyps. hypothesis_holds sizes look q.hypotheses h f e hyps))

  -- ---- members

  member_right_sound : (ps : List Premise) → member_right q.goal ≡ Some ps → Carry sizes q ps
  member_right_sound ps e = by_goal q.goal refl e
    where
      by_goal : (g : FormulaTree) → q.goal ≡ g → member_right g ≡ Some ps → Carry sizes q ps
      by_goal (Rel Member t s) i e =
          let p = shown_tells (membership t s) ps e in
          let fit : Fits (Rel Member t s) = subst Fits i kinded.goal in
          subst (Carry sizes q) p.2 (proves p.0 (membership_fits sizes q.names t s p.0 p.1 fit) (λ look gives holds.
          subst (H look) (sym i) ((member_iff sizes look q.names gives t s p.0 p.1 fit).0 holds)))
      by_goal g i e = absurd (no_premises e)

  member_left_sound : (h : ℕ) (ps : List Premise) → member_left (hypothesis q.hypotheses h) ≡ Some ps → Carry sizes q ps
  member_left_sound h ps e = by_formula (hypothesis q.hypotheses h) refl e
    where
      by_formula : (o : Option FormulaTree) → hypothesis q.hypotheses h ≡ o → member_left o ≡ Some ps → Carry sizes q ps
      by_formula (Some (Rel Member t s)) i e =
          let p = known_tells (membership t s) ps e in
          let is = hypothesis_is h (Rel Member t s) i in
          subst (Carry sizes q) p.2 (adds p.0 (membership_fits sizes q.names t s p.0 p.1 is.0) (λ look gives hyps.
          (member_iff sizes look q.names gives t s p.0 p.1 is.0).1 (is.1 look hyps)))
      by_formula o i e = absurd (no_premises e)

  -- ---- parts

  subset_right_sound : (ps : List Premise) → subset_right sizes q.names q.goal ≡ Some ps → Carry sizes q ps
  subset_right_sound ps e = by_goal q.goal refl e
    where
      by_name : (s u : TermTree) (k l m : Kind) → q.goal ≡ Rel Subset s u → kind_of sizes q.names [] s ≡ Some k → kind_of sizes q.names [] u ≡ Some l → common_set k l ≡ Some m →
          (o : Option Name) → fresh q.names (codes "e") ≡ o → each_item s u (item_kind (Some k) (Some l)) o ≡ Some ps → Carry sizes q ps
      by_name s u k l m i es eu em None f e = absurd (no_premises e)
      by_name s u k l m i es eu em (Some y) f e =
          let none = fresh_is_new q.names (codes "e") y f in
          let r = item_kind (Some k) (Some l) in
          let fit : Fits (Rel Subset s u) = subst Fits i kinded.goal in
          let new = opened_fits sizes q.names s u k l m es eu em y none in
          let g : Option FormulaTree = Some (Rel Member (Var y) u) in
          let fs : List FormulaTree = Rel Member (Var y) s ∷ [] in
          subst (Carry sizes q) (same_Some _ ps e) (
            (opens_kinded sizes q g fs y r none kinded new.1 (new.0, tt), tt),
            (λ w look gives hyps. subst (H look) (sym i) (subset_from sizes look q.names gives s u fit (λ v k' l' xs ys es' eu' of_v ai hs hu inside.
                let of_r : IsOf sizes r v = subst (λ z. IsOf sizes z v) (ap₂ item_kind (sym es' ∙ es) (sym eu' ∙ eu)) of_v in
                let look' : Look = set_at look y v in
                let hs' = unused_term sizes look q.names y v none s k' (value.Set xs) es' hs in
                let hu' = unused_term sizes look q.names y v none u l' (value.Set ys) eu' hu in
                let self = at_self sizes look q.names y v none in
                let gives' = gives_more sizes look q.names y v none r gives of_r in
                let before = (member_holds sizes look' _ gives' (Var y) s v xs ai self hs').0 inside in
                let after = opens_valid sizes q g fs y r none kinded w.0 look gives hyps v of_r (before, tt) in
                (member_holds sizes look' _ gives' (Var y) u v ys ai self hu').1 after))),
          )

      by_goal : (g : FormulaTree) → q.goal ≡ g → subset_right sizes q.names g ≡ Some ps → Carry sizes q ps
      by_goal (Rel Subset s u) i e =
          let fit : Fits (Rel Subset s u) = subst Fits i kinded.goal in
          let ks = both_true (rel_kinds Subset) (kind_of sizes q.names [] s) (kind_of sizes q.names [] u) fit in
          let m = is_some_tells (common_set ks.0 ks.1) ks.4 in
          by_name s u ks.0 ks.1 m.0 i ks.2 ks.3 m.1 (fresh q.names (codes "e")) refl
          (subst (λ k. each_item s u k (fresh q.names (codes "e")) ≡ Some ps) (ap₂ item_kind ks.2 ks.3) e)
      by_goal g i e = absurd (no_premises e)

  subset_left_sound : (h : ℕ) (a : TermArgument) (ps : List Premise) → term_fits sizes q.names a ≡ true → subset_left sizes q.names a (hypothesis q.hypotheses h) ≡ Some ps → Carry sizes q ps
  subset_left_sound h (term.Read r) ps fit e = absurd (not_so fit)
  subset_left_sound h term.Unclear ps fit e = absurd (not_so fit)
  subset_left_sound h (term.Term t k) ps fit e = by_formula (hypothesis q.hypotheses h) refl e
    where
      by_formula : (o : Option FormulaTree) → hypothesis q.hypotheses h ≡ o → subset_left sizes q.names (term.Term t k) o ≡ Some ps → Carry sizes q ps
      by_formula (Some (Rel Subset s u)) i e =
          let p = only_tells (is_item_of k (kind_of sizes q.names [] s) && is_item_of k (kind_of sizes q.names [] u)) _ ps e in
          let both = and_parts (is_item_of k (kind_of sizes q.names [] s)) (is_item_of k (kind_of sizes q.names [] u)) p.0 in
          let in_s = item_tells k (kind_of sizes q.names [] s) both.0 in
          let in_u = item_tells k (kind_of sizes q.names [] u) both.1 in
          let et = is_kind_tells _ k (kind_of sizes q.names [] t) fit in
          let is = hypothesis_is h (Rel Subset s u) i in
          subst (Carry sizes q) p.1 (adds (Implies (Rel Member t s) (Rel Member t u))
          (and_from _ _ (rel_fits sizes q.names Member t s k in_s.0 et in_s.1 in_s.2) (rel_fits sizes q.names Member t u k in_u.0 et in_u.1 in_u.2))
          (λ look gives hyps. subset_member sizes look q.names gives s u t (is.1 look hyps)))
      by_formula o i e = absurd (no_premises e)

  extension_sound : (ps : List Premise) → extension sizes q.names q.goal ≡ Some ps → Carry sizes q ps
  extension_sound ps e = by_goal q.goal refl e
    where
      by_goal : (g : FormulaTree) → q.goal ≡ g → extension sizes q.names g ≡ Some ps → Carry sizes q ps
      by_goal (Rel Equal s u) i e =
          let p = only_tells (is_set (kind_of sizes q.names [] s)) _ ps e in
          let fit : Fits (Rel Equal s u) = subst Fits i kinded.goal in
          let ks = both_true (rel_kinds Equal) (kind_of sizes q.names [] s) (kind_of sizes q.names [] u) fit in
          let sets = equal_sets ks.0 ks.1 ks.4 (subst (λ o. is_set o ≡ true) ks.2 p.0) in
          let there : Fits (Rel Subset s u) = rel_fits sizes q.names Subset s u ks.0 ks.1 ks.2 ks.3 sets in
          let back : Fits (Rel Subset u s) = rel_fits sizes q.names Subset u s ks.1 ks.0 ks.3 ks.2 (common_back ks.0 ks.1 sets) in
          subst (Carry sizes q) p.1 (
            (adds_kinded sizes q (Some (Rel Subset s u)) [] kinded there tt, (adds_kinded sizes q (Some (Rel Subset u s)) [] kinded back tt, tt)),
            (λ w look gives hyps. subst (H look) (sym i) (equal_from sizes look q.names gives s u there
                (adds_valid sizes q (Some (Rel Subset s u)) [] w.0 look gives hyps tt) (adds_valid sizes q (Some (Rel Subset u s)) [] w.1.0 look gives hyps tt))),
          )
      by_goal g i e = absurd (no_premises e)

  -- ---- how many items a set has

  not_negative_sound : (a : TermArgument) (ps : List Premise) → term_fits sizes q.names a ≡ true → card_not_negative a ≡ Some ps → Carry sizes q ps
  not_negative_sound (term.Read r) ps fit e = absurd (not_so fit)
  not_negative_sound term.Unclear ps fit e = absurd (not_so fit)
  not_negative_sound (term.Term s k) ps fit e =
      let p = only_tells (is_set (Some k)) _ ps e in
      let set = set_tells sizes k p.0 in
      let es = is_kind_tells _ k (kind_of sizes q.names [] s) fit in
      subst (Carry sizes q) p.1 (adds _ (card_fits sizes q.names s k es set.1) (λ look gives hyps. size_not_negative sizes look q.names gives s k es set.0))

  added_sound : (a b : TermArgument) (ps : List Premise) → (term_fits sizes q.names a && term_fits sizes q.names b) ≡ true → card_added a b ≡ Some ps → Carry sizes q ps
  added_sound (term.Read r) b ps fit e = absurd (not_so fit)
  added_sound term.Unclear b ps fit e = absurd (not_so fit)
  added_sound (term.Term s k) (term.Read r) ps fit e = absurd (no_premises e)
  added_sound (term.Term s k) term.Unclear ps fit e = absurd (no_premises e)
  added_sound (term.Term s k) (term.Term t l) ps fit e =
      let p = only_tells (rel_kinds Member l k) _ ps e in
      let both = and_parts (term_fits sizes q.names (term.Term s k)) (term_fits sizes q.names (term.Term t l)) fit in
      let es = is_kind_tells _ k (kind_of sizes q.names [] s) both.0 in
      let et = is_kind_tells _ l (kind_of sizes q.names [] t) both.1 in
      let inside = rel_fits sizes q.names Member t s l k et es p.0 in
      subst (Carry sizes q) p.1 (proves_adds (Not (Rel Member t s)) _ inside (added_fits sizes q.names s t k l es et p.0) (λ look gives. size_added sizes look q.names gives s t inside))

  removed_sound : (a b : TermArgument) (ps : List Premise) → (term_fits sizes q.names a && term_fits sizes q.names b) ≡ true → card_removed a b ≡ Some ps → Carry sizes q ps
  removed_sound (term.Read r) b ps fit e = absurd (not_so fit)
  removed_sound term.Unclear b ps fit e = absurd (not_so fit)
  removed_sound (term.Term s k) (term.Read r) ps fit e = absurd (no_premises e)
  removed_sound (term.Term s k) term.Unclear ps fit e = absurd (no_premises e)
  removed_sound (term.Term s k) (term.Term t l) ps fit e =
      let p = only_tells (rel_kinds Member l k) _ ps e in
      let both = and_parts (term_fits sizes q.names (term.Term s k)) (term_fits sizes q.names (term.Term t l)) fit in
      let es = is_kind_tells _ k (kind_of sizes q.names [] s) both.0 in
      let et = is_kind_tells _ l (kind_of sizes q.names [] t) both.1 in
      let inside = rel_fits sizes q.names Member t s l k et es p.0 in
      subst (Carry sizes q) p.1 (proves_adds (Rel Member t s) _ inside (removed_fits sizes q.names s t k l es et p.0) (λ look gives. size_removed sizes look q.names gives s t inside))

  within_sound : (a b : TermArgument) (ps : List Premise) → (term_fits sizes q.names a && term_fits sizes q.names b) ≡ true → card_within a b ≡ Some ps → Carry sizes q ps
  within_sound (term.Read r) b ps fit e = absurd (not_so fit)
  within_sound term.Unclear b ps fit e = absurd (not_so fit)
  within_sound (term.Term s k) (term.Read r) ps fit e = absurd (no_premises e)
  within_sound (term.Term s k) term.Unclear ps fit e = absurd (no_premises e)
  within_sound (term.Term s k) (term.Term t l) ps fit e =
      let p = only_tells (rel_kinds Subset k l) _ ps e in
      let both = and_parts (term_fits sizes q.names (term.Term s k)) (term_fits sizes q.names (term.Term t l)) fit in
      let es = is_kind_tells _ k (kind_of sizes q.names [] s) both.0 in
      let et = is_kind_tells _ l (kind_of sizes q.names [] t) both.1 in
      let m = is_some_tells (common_set k l) p.0 in
      let part = rel_fits sizes q.names Subset s t k l es et p.0 in
      subst (Carry sizes q) p.1 (proves_adds (Rel Subset s t) _ part (sizes_fit sizes q.names s t k l m.0 es et m.1) (λ look gives. size_within sizes look q.names gives s t part))

  -- ---- elements

  each_kinded : (t : TermTree) (set i n : ℕ) → kind_of sizes q.names [] t ≡ Some (kind.Elem set) → i + n ≤ size_of_set sizes set → AllKinded sizes (premises_of q (each_element t set i n))
  each_kinded t set i zero et le = tt
  each_kinded t set i (suc n) et le =
      let small : (if nat_lt i (size_of_set sizes set) then Some (kind.Elem set) else None) ≡ Some (kind.Elem set) =
      ap (λ b. if b then Some (kind.Elem set) else None) (lt-ltb i (size_of_set sizes set) (omega (arith, le))) in (
        adds_kinded sizes q None (Rel Equal t (Elem set i) ∷ []) kinded kinded.goal (rel_fits sizes q.names Equal t (Elem set i) (kind.Elem set) (kind.Elem set) et small (eq-eqb set set refl), tt),
        each_kinded t set (i + 1) n et (omega (arith, le)),
      )

  -- one of the premises is that of element k
  each_valid : (t : TermTree) (set i n k : ℕ) (look : Look) → Gives sizes look q.names → AllHold sizes look q.hypotheses → IsValue sizes look t [] (value.Elem k) →
      i ≤ k → k < i + n → AllValid sizes (premises_of q (each_element t set i n)) → H look q.goal
  each_valid t set i zero k look gives hyps hv le lt w = absurd (omega (arith, le, lt))
  each_valid t set i (suc n) k look gives hyps hv le lt w = by (nat_lt i k) refl (λ le'. each_valid t set (i + 1) n k look gives hyps hv le' (omega (arith, lt)) w.1)
    where
      by : (b : Bool) → nat_lt i k ≡ b → (i + 1 ≤ k → H look q.goal) → H look q.goal
      by true e r = r (omega (arith, ltb-true i k e))
      by false e r = adds_valid sizes q None (Rel Equal t (Elem set i) ∷ []) w.0 look gives hyps
          ((rel_holds sizes look [] t (Elem set i) (value.Elem k) (value.Elem i) hv refl Equal).0 (eq-eqb k i (omega (arith, ltb-false i k e, le))), tt)

  elements_sound : (a : TermArgument) (ps : List Premise) → term_fits sizes q.names a ≡ true → elements sizes a ≡ Some ps → Carry sizes q ps
  elements_sound (term.Term t (kind.Elem set)) ps fit e =
      let et = is_kind_tells _ (kind.Elem set) (kind_of sizes q.names [] t) fit in
      subst (Carry sizes q) (same_Some _ ps e) (
        each_kinded t set 0 (size_of_set sizes set) et (omega arith),
        (λ w look gives hyps. valued sizes look q.names gives t (kind.Elem set) et (H look q.goal) (holds_stable sizes look q.goal []) (λ v hv kv.
            by_elem sizes set v kv (λ z. IsValue sizes look t [] z → H look q.goal) (λ k lt hv.
            each_valid t set 0 (size_of_set sizes set) k look gives hyps hv (omega arith) (omega (arith, lt)) w) hv)),
      )
  elements_sound a ps fit e = absurd (no_premises e)

pub set_rule_sound : (sizes : List ℕ) (r : Rule) → Sound sizes (set_premises sizes) r
set_rule_sound sizes (rule.Elems t) q ps e fit k = elements_sound sizes q k t ps fit e
set_rule_sound sizes rule.Member q ps e fit k = member_right_sound sizes q k ps e
set_rule_sound sizes (rule.MemberL h) q ps e fit k = member_left_sound sizes q k h ps e
set_rule_sound sizes rule.Subset q ps e fit k = subset_right_sound sizes q k ps e
set_rule_sound sizes (rule.SubsetL h t) q ps e fit k = subset_left_sound sizes q k h t ps fit e
set_rule_sound sizes rule.Ext q ps e fit k = extension_sound sizes q k ps e
set_rule_sound sizes (rule.CardPos s) q ps e fit k = not_negative_sound sizes q k s ps fit e
set_rule_sound sizes (rule.CardAdd s t) q ps e fit k = added_sound sizes q k s t ps fit e
set_rule_sound sizes (rule.CardDel s t) q ps e fit k = removed_sound sizes q k s t ps fit e
set_rule_sound sizes (rule.CardSub s t) q ps e fit k = within_sound sizes q k s t ps fit e
set_rule_sound sizes r q ps e fit k = absurd (no_premises e)
