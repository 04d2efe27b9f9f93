-- The rules on quantifiers and equations are sound.
use Rattle.std.proofs.Common.{◌≡◌, ℕ, true, false, List, [], ◌∷◌, ◌++◌, Option, Some, None, refl, sym, subst, true≢false, ◌↔◌}
use Rattle.std.proofs.lemmas.Option.{same_Some}
use Rattle.cb_term.specs.declared.name.Name.{Name}
use Rattle.cb_term.specs.declared.kind.Kind.{Kind}
use Rattle.cb_term.specs.declared.sign.RelSign.TheVariants.{Equal}
use Rattle.cb_term.specs.declared.value.Value.{Value}
use Rattle.cb_term.specs.Tree.{TermTree, Var, FormulaTree, Rel, Every, Exist}
use Rattle.cb_term.specs.Values.{Look, IsOf}
use Rattle.cb_term.specs.Holds.{Holds}
use Rattle.cb_term.specs.Change.{open_formula}
use Rattle.cb_term.proofs.HoldsLemmas.{IsStable, holds_stable}
use Rattle.cb_term.proofs.LawLemmas.{holds_open}
use Rattle.cb_seq.specs.declared.rule.TermArgument.{TermArgument}
use Rattle.cb_seq.specs.declared.rule.TermArgument.TheVariants as term
use Rattle.cb_seq.specs.declared.rule.Rule.{Rule}
use Rattle.cb_seq.specs.declared.rule.Rule.TheVariants as rule
use Rattle.cb_seq.specs.declared.premise.Premise.{Premise}
use Rattle.cb_seq.specs.Kinds.{kind_in, kind_of, fits, Gives}
use Rattle.cb_seq.specs.Arguments.{counts_as, term_fits}
use Rattle.cb_seq.specs.Validity.{Claim, AllHold, Kinded}
use Rattle.cb_seq.specs.Premises.{hypothesis, fresh, proving, adding, Carry, Sound}
use Rattle.cb_seq.proofs.KindLemmas.{kind_closed, fits_closed}
use Rattle.cb_seq.proofs.MoreNames.{fits_naming, more_new, fresh_is_new, unused, opened}
use Rattle.cb_seq.proofs.PremiseLemmas.{only_tells, hypothesis_holds, hypothesis_fits, adds_valid, adds_kinded, opens_valid, opens_kinded, is_kind_tells, valued}
use Rattle.cb_check_names.specs.Replace.{replaced}
use Rattle.cb_check_names.specs.NameRules.{shown_at, all_right, exist_right, all_left, known_at, exist_left, shown_changed, equal_right, known_changed, equal_left, name_premises}
use Rattle.cb_check_names.proofs.EqualLemmas.{replaced_alike}
use Rattle.cb_check_names.proofs.Mapping.{below_self}
use Rattle.cb_check_names.proofs.OpenLemmas.{counts_below, below_value, fits_open}

no_premises : {A : Type 0} {x : A} → None ≡ Some x → ⊥
no_premises e = cc

not_so : false ≡ true → ⊥
not_so e = true≢false (sym e)

shown_tells : (sizes : List ℕ) (names : List (Name × Kind)) (s t : TermTree) (g : FormulaTree) (ps : List Premise) → shown_changed sizes names s t g ≡ Some ps →
    (fits sizes names [] (replaced s t g) ≡ true) × ((proving (replaced s t g) ∷ []) ≡ ps)
unfolding shown_changed
shown_tells sizes names s t g ps e = only_tells (fits sizes names [] (replaced s t g)) _ ps e

known_tells : (sizes : List ℕ) (names : List (Name × Kind)) (s t : TermTree) (f : FormulaTree) (ps : List Premise) → known_changed sizes names s t f ≡ Some ps →
    (fits sizes names [] (replaced s t f) ≡ true) × ((adding (replaced s t f ∷ []) ∷ []) ≡ ps)
unfolding known_changed
known_tells sizes names s t f ps e = only_tells (fits sizes names [] (replaced s t f)) _ ps e

module _ (sizes : List ℕ) (q : Claim) (kinded : Kinded sizes q) where
  abbrev Fits : FormulaTree → Type 0
  Fits f = fits sizes q.names [] f ≡ true

  abbrev H : Look → FormulaTree → Type 0
  H look f = Holds sizes look f []

  -- one premise with another goal
  proves : (f : FormulaTree) → Fits f → ((look : Look) → Gives sizes look q.names → AllHold sizes look q.hypotheses → H look f → H look q.goal) → Carry sizes q (proving f ∷ [])
  proves f fit go = (
    (adds_kinded sizes q (Some f) [] kinded fit tt, tt),
    (λ w look gives hyps. go look gives hyps (adds_valid sizes q (Some f) [] w.0 look gives hyps tt)),
  )

  -- one premise with a further hypothesis, which holds as far as the goal can tell
  adds : (f : FormulaTree) → Fits f → ((look : Look) → Gives sizes look q.names → AllHold sizes look q.hypotheses → (C : Type 0) → IsStable C → (H look f → C) → C) →
      Carry sizes q (adding (f ∷ []) ∷ [])
  adds f fit go = (
    (adds_kinded sizes q None (f ∷ []) kinded kinded.goal (fit, tt), tt),
    (λ w look gives hyps. go look gives hyps (H look q.goal) (holds_stable sizes look q.goal []) (λ h. adds_valid sizes q None (f ∷ []) w.0 look gives hyps (h, tt))),
  )

  hypothesis_is : (h : ℕ) (f : FormulaTree) → hypothesis q.hypotheses h ≡ Some f → Fits f × ((look : Look) → AllHold sizes look q.hypotheses → H look f)
  hypothesis_is h f e = (hypothesis_fits sizes q.names q.hypotheses h f e kinded.hypotheses, (λ look hyps. hypothesis_holds sizes look q.hypotheses h f e hyps))

  -- ---- fresh names

  -- the body at a new name fits
  opened_fits : (y : Name) (k : Kind) (f : FormulaTree) → kind_in q.names y ≡ None → fits sizes q.names (k ∷ []) f ≡ true → fits sizes (q.names ++ (y, k) ∷ []) [] (open_formula (Var y) f) ≡ true
  opened_fits y k f none fit =
      fits_open sizes (q.names ++ (y, k) ∷ []) (Var y) k k (more_new q.names y k none) (below_self k) f (fits_naming sizes q.names (y, k) f (k ∷ []) fit)

  all_right_sound : (ps : List Premise) → all_right q.names q.goal ≡ Some ps → Carry sizes q ps
  all_right_sound ps e = by_goal q.goal refl e
    where
      by_name : (x : Name) (k : Kind) (f : FormulaTree) → q.goal ≡ Every x k f → (o : Option Name) → fresh q.names x.text ≡ o → shown_at f k o ≡ Some ps → Carry sizes q ps
      by_name x k f i None n e = absurd (no_premises e)
      by_name x k f i (Some y) n e =
          let none = fresh_is_new q.names x.text y n in
          let fit : fits sizes q.names (k ∷ []) f ≡ true = subst Fits i kinded.goal in
          let g : Option FormulaTree = Some (open_formula (Var y) f) in
          subst (Carry sizes q) (same_Some _ ps e) (
            (opens_kinded sizes q g [] y k none kinded (opened_fits y k f none fit) tt, tt),
            (λ w look gives hyps. subst (H look) (sym i) (λ v of_k.
                (opened sizes look q.names y v none f k fit).0 (opens_valid sizes q g [] y k none kinded w.0 look gives hyps v of_k tt))),
          )

      by_goal : (g : FormulaTree) → q.goal ≡ g → all_right q.names g ≡ Some ps → Carry sizes q ps
      by_goal (Every x k f) i e = by_name x k f i (fresh q.names x.text) refl e
      by_goal g i e = absurd (no_premises e)

  exist_left_sound : (h : ℕ) (ps : List Premise) → exist_left q.names (hypothesis q.hypotheses h) ≡ Some ps → Carry sizes q ps
  exist_left_sound h ps e = by_formula (hypothesis q.hypotheses h) refl e
    where
      by_name : (x : Name) (k : Kind) (f : FormulaTree) → hypothesis q.hypotheses h ≡ Some (Exist x k f) → (o : Option Name) → fresh q.names x.text ≡ o → known_at f k o ≡ Some ps → Carry sizes q ps
      by_name x k f i None n e = absurd (no_premises e)
      by_name x k f i (Some y) n e =
          let none = fresh_is_new q.names x.text y n in
          let is = hypothesis_is h (Exist x k f) i in
          let fs : List FormulaTree = open_formula (Var y) f ∷ [] in
          subst (Carry sizes q) (same_Some _ ps e) (
            (opens_kinded sizes q None fs y k none kinded (fits_naming sizes q.names (y, k) q.goal [] kinded.goal) (opened_fits y k f none is.0, tt), tt),
            (λ w look gives hyps. holds_stable sizes look q.goal [] (λ n. is.1 look hyps (λ v of_k holds. n
                ((unused sizes look q.names y v none q.goal [] [] kinded.goal).1
                (opens_valid sizes q None fs y k none kinded w.0 look gives hyps v of_k ((opened sizes look q.names y v none f k is.0).1 holds, tt)))))),
          )

      by_formula : (o : Option FormulaTree) → hypothesis q.hypotheses h ≡ o → exist_left q.names o ≡ Some ps → Carry sizes q ps
      by_formula (Some (Exist x k f)) i e = by_name x k f i (fresh q.names x.text) refl e
      by_formula o i e = absurd (no_premises e)

  -- ---- a term for a bound variable of its kind

  -- for a stable goal the term has a value of the kind, and the body at the term holds where the body holds with that value
  at_term : (t : TermTree) (l k : Kind) (f : FormulaTree) → kind_of sizes q.names [] t ≡ Some l → counts_as l k ≡ true → (look : Look) → Gives sizes look q.names →
      (C : Type 0) → IsStable C → ((v : Value) → IsOf sizes k v → (H look (open_formula t f) ↔ Holds sizes look f (v ∷ [])) → C) → C
  at_term t l k f et counts look gives C st go = valued sizes look q.names gives t l et C st (λ v iv of_l.
      go v (below_value sizes l k v (counts_below l k counts) of_l) (holds_open sizes look t v (kind_closed sizes q.names t [] l et 0 refl) iv f))

  exist_right_sound : (a : TermArgument) (ps : List Premise) → term_fits sizes q.names a ≡ true → exist_right a q.goal ≡ Some ps → Carry sizes q ps
  exist_right_sound (term.Read r) ps fit e = absurd (not_so fit)
  exist_right_sound term.Unclear ps fit e = absurd (not_so fit)
  exist_right_sound (term.Term t l) ps fit e = by_goal q.goal refl e
    where
      by_goal : (g : FormulaTree) → q.goal ≡ g → exist_right (term.Term t l) g ≡ Some ps → Carry sizes q ps
      by_goal (Exist x k f) i e =
          let p = only_tells (counts_as l k) _ ps e in
          let et = is_kind_tells _ l (kind_of sizes q.names [] t) fit in
          let fit : Fits (Exist x k f) = subst Fits i kinded.goal in
          subst (Carry sizes q) p.1 (proves (open_formula t f) (fits_open sizes q.names t l k et (counts_below l k p.0) f fit) (λ look gives hyps holds.
          subst (H look) (sym i) (at_term t l k f et p.0 look gives (H look (Exist x k f)) (holds_stable sizes look (Exist x k f) []) (λ v of_k alike none.
          none v of_k (alike.0 holds)))))
      by_goal g i e = absurd (no_premises e)

  all_left_sound : (h : ℕ) (a : TermArgument) (ps : List Premise) → term_fits sizes q.names a ≡ true → all_left a (hypothesis q.hypotheses h) ≡ Some ps → Carry sizes q ps
  all_left_sound h (term.Read r) ps fit e = absurd (not_so fit)
  all_left_sound h term.Unclear ps fit e = absurd (not_so fit)
  all_left_sound h (term.Term t l) ps fit e = by_formula (hypothesis q.hypotheses h) refl e
    where
      by_formula : (o : Option FormulaTree) → hypothesis q.hypotheses h ≡ o → all_left (term.Term t l) o ≡ Some ps → Carry sizes q ps
      by_formula (Some (Every x k f)) i e =
          let p = only_tells (counts_as l k) _ ps e in
          let et = is_kind_tells _ l (kind_of sizes q.names [] t) fit in
          let is = hypothesis_is h (Every x k f) i in
          subst (Carry sizes q) p.1 (adds (open_formula t f) (fits_open sizes q.names t l k et (counts_below l k p.0) f is.0) (λ look gives hyps C st go.
          at_term t l k f et p.0 look gives C st (λ v of_k alike. go (alike.1 (is.1 look hyps v of_k)))))
      by_formula o i e = absurd (no_premises e)

  -- ---- equations

  alike : (h : ℕ) (s t : TermTree) → hypothesis q.hypotheses h ≡ Some (Rel Equal s t) → (f : FormulaTree) (look : Look) → AllHold sizes look q.hypotheses →
      (C : Type 0) → IsStable C → ((H look (replaced s t f) ↔ H look f) → C) → C
  alike h s t i f look hyps =
      let is = hypothesis_is h (Rel Equal s t) i in
      replaced_alike sizes look s t (fits_closed sizes q.names (Rel Equal s t) [] is.0 0 refl) (is.1 look hyps) f

  equal_right_sound : (h : ℕ) (ps : List Premise) → equal_right sizes q.names (hypothesis q.hypotheses h) q.goal ≡ Some ps → Carry sizes q ps
  equal_right_sound h ps e = by_formula (hypothesis q.hypotheses h) refl e
    where
      by_formula : (o : Option FormulaTree) → hypothesis q.hypotheses h ≡ o → equal_right sizes q.names o q.goal ≡ Some ps → Carry sizes q ps
      by_formula (Some (Rel Equal s t)) i e =
          let p = shown_tells sizes q.names s t q.goal ps e in
          subst (Carry sizes q) p.1 (proves (replaced s t q.goal) p.0 (λ look gives hyps holds.
          alike h s t i q.goal look hyps (H look q.goal) (holds_stable sizes look q.goal []) (λ a. a.0 holds)))
      by_formula o i e = absurd (no_premises e)

  equal_left_sound : (h j : ℕ) (ps : List Premise) → equal_left sizes q.names (hypothesis q.hypotheses h) (hypothesis q.hypotheses j) ≡ Some ps → Carry sizes q ps
  equal_left_sound h j ps e = by_formula (hypothesis q.hypotheses h) (hypothesis q.hypotheses j) refl refl e
    where
      by_formula : (o p : Option FormulaTree) → hypothesis q.hypotheses h ≡ o → hypothesis q.hypotheses j ≡ p → equal_left sizes q.names o p ≡ Some ps → Carry sizes q ps
      by_formula (Some (Rel Equal s t)) (Some f) i k e =
          let p = known_tells sizes q.names s t f ps e in
          let is = hypothesis_is j f k in
          subst (Carry sizes q) p.1 (adds (replaced s t f) p.0 (λ look gives hyps C st go.
          alike h s t i f look hyps C st (λ a. go (a.1 (is.1 look hyps)))))
      by_formula o p i k e = absurd (no_premises e)

pub name_rule_sound : (sizes : List ℕ) (r : Rule) → Sound sizes (name_premises sizes) r
name_rule_sound sizes rule.AllR q ps e fit k = all_right_sound sizes q k ps e
name_rule_sound sizes (rule.ExR t) q ps e fit k = exist_right_sound sizes q k t ps fit e
name_rule_sound sizes (rule.AllL h t) q ps e fit k = all_left_sound sizes q k h t ps fit e
name_rule_sound sizes (rule.ExL h) q ps e fit k = exist_left_sound sizes q k h ps e
name_rule_sound sizes (rule.Eq h) q ps e fit k = equal_right_sound sizes q k h ps e
name_rule_sound sizes (rule.EqIn h j) q ps e fit k = equal_left_sound sizes q k h j ps e
name_rule_sound sizes r q ps e fit k = absurd (no_premises e)
