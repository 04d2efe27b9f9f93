-- Substitutions without a fault fit in normal form.
use Rattle.std.proofs.Common.{◌≡◌, ℕ, ◌==◌, Bool, true, false, ◌||◌, List, [], ◌∷◌, ◌++◌, Option, Some, None, is_some, refl, sym, ap, ◌∙◌, subst, true≢false, if◌then◌else◌, bytes_eq}
use Rattle.std.proofs.lemmas.Bool.{and_parts}
use Rattle.cb_lex.specs.declared.token.Place.{Place}
use Rattle.cb_lex.specs.declared.raw.name.RawName.{RawName}
use Rattle.cb_lex.specs.declared.raw.domain.RawDomain.{RawDomain}
use Rattle.cb_lex.specs.RawSubstTree.{RawSubstTree, RawSubsts}
use Rattle.cb_lex.specs.RawSubstTree as raw
use Rattle.cb_term.specs.declared.name.Name.{Name}
use Rattle.cb_term.specs.declared.kind.Domain.{Domain}
use Rattle.cb_term.specs.declared.kind.Domain.TheVariants as domain
use Rattle.cb_term.specs.Names.{same_name}
use Rattle.cb_term.specs.Tree.{TermTree, Var}
use Rattle.cb_spec.specs.Domains.{typing, HasElements}
use Rattle.cb_spec.specs.Forms.{form_of_domain}
use Rattle.cb_spec.specs.Runs.{writes, one_writes, HasConjunct, Fits, FitEach}
use Rattle.cb_spec.specs.TypedTerms.{Scope}
use Rattle.cb_forms.specs.Find.{found}
use Rattle.cb_judge.specs.declared.domain.Choice.{Choice}
use Rattle.cb_judge.specs.declared.names.View.{View}
use Rattle.cb_judge.specs.Meanings.{Names}
use Rattle.cb_judge.specs.Choices.{typing_in, choice_faults, domain_in}
use Rattle.cb_judge.specs.Substs.{Results, within, results_after, subst_fault, sides_fault}
use Rattle.cb_judge.specs.Writes.{Written, with_target, after, after_sides, beside, shared, shared_sides}
use Rattle.cb_normal.specs.Normal.{written, domain_or, formula_in}
use Rattle.cb_normal.specs.NormalSubsts.{any, among, subst_in, substs_in}
use Rattle.cb_typing.specs.Sides.{HasSides, EachHasSides}
use Rattle.cb_typing.specs.Reflects.{Reflects, Reserves}
use Rattle.cb_typing.specs.Laws.{SubstsFit}
use Rattle.cb_typing.proofs.Clean.{Clean, clean_of, not_bad}
use Rattle.cb_typing.proofs.Lookups.{bytes_tell, found_front, found_last}
use Rattle.cb_typing.proofs.Domains.{conjunct, is_domain, domain_sized}
use Rattle.cb_typing.proofs.Under.{knows_sets, within_reflects, within_stays, within_named, within_reserves}
use Rattle.cb_typing.proofs.Terms.{chosen}

-- ---- names that are written

abbrev IsIn : List ℕ → Written → Type 0
IsIn x w = is_some (found x w) ≡ true

one_stays : (x : List ℕ) (y : RawName) (w : Written) → IsIn x w → IsIn x (with_target y w)
one_stays x y w h = by (is_some (found y.text w))
  where
    front : (o : Option Place) → found x w ≡ o → is_some o ≡ true → IsIn x (w ++ (y.text, y.place) ∷ [])
    front None e h = absurd (true≢false (sym h))
    front (Some p) e h = rw (found_front x p w ((y.text, y.place) ∷ []) e) refl

    by : (b : Bool) → IsIn x (if b then w else w ++ (y.text, y.place) ∷ [])
    by true = h
    by false = front (found x w) refl h

target_is_in : (x : List ℕ) (y : RawName) (w : Written) → bytes_eq x y.text ≡ true → IsIn x (with_target y w)
target_is_in x y w e = let i : x ≡ y.text = bytes_tell x y.text e in rw i (by (found y.text w) refl)
  where
    by : (o : Option Place) → found y.text w ≡ o → IsIn y.text (if is_some o then w else w ++ (y.text, y.place) ∷ [])
    by None q = rw (found_last y.text y.place w q) refl
    by (Some p) q = rw q refl

mutual
  stays : (s : RawSubstTree) (x : List ℕ) (w : Written) → IsIn x w → IsIn x (after w s)
  stays raw.Skip x w h = h
  stays (raw.Assign y t) x w h = one_stays x y w h
  stays (raw.Among y d) x w h = one_stays x y w h
  stays (raw.If f s) x w h = stays s x w h
  stays (raw.IfElse f s t) x w h = stays s x (after w t) (stays t x w h)
  stays (raw.Choice ss) x w h = sides_stay ss x w h
  stays (raw.Any y f s) x w h = stays s x w h
  stays (raw.Parallel s t) x w h = stays t x (after w s) (stays s x w h)

  sides_stay : (ss : RawSubsts) (x : List ℕ) (w : Written) → IsIn x w → IsIn x (after_sides w ss)
  sides_stay raw.NoSide x w h = h
  sides_stay (raw.Side s ss) x w h = sides_stay ss x (after w s) (stays s x w h)

or_cases : (a b : Bool) (P : Type 0) → (a ≡ true → P) → (b ≡ true → P) → (a || b) ≡ true → P
or_cases true b P f g e = f refl
or_cases false b P f g e = g e

module _ (v : View) (x : Name) where
  text_same : (y : List ℕ) → same_name x (written y) ≡ true → bytes_eq x.text y ≡ true
  text_same y e = (and_parts (bytes_eq x.text y) (x.number == 0) e).0

  mutual
    -- what is written is in the list
    in_after : (s : RawSubstTree) (names : Names) (w : Written) → writes x (subst_in v names s) ≡ true → IsIn x.text (after w s)
    in_after raw.Skip names w e = absurd (true≢false (sym e))
    in_after (raw.Assign y t) names w e = target_is_in x.text y w (text_same y.text e)
    in_after (raw.Among y d) names w e = target_is_in x.text y w (text_same y.text e)
    in_after (raw.If f s) names w e =
        or_cases (writes x (subst_in v names s)) false (IsIn x.text (after w s)) (in_after s names w) (λ q. absurd (true≢false (sym q))) e
    in_after (raw.IfElse f s t) names w e =
        or_cases (writes x (subst_in v names s)) (writes x (subst_in v names t)) (IsIn x.text (after (after w t) s)) (in_after s names (after w t)) (λ q. stays s x.text (after w t) (in_after t names w q)) e
    in_after (raw.Choice ss) names w e = in_sides ss names w e
    in_after (raw.Any y f s) names w e = in_after s (within y (typing_in v names y.text f) names) w e
    in_after (raw.Parallel s t) names w e =
        or_cases (writes x (subst_in v names s)) (writes x (subst_in v names t)) (IsIn x.text (after (after w s) t)) (λ q. stays t x.text (after w s) (in_after s names w q)) (in_after t names (after w s)) e

    in_sides : (ss : RawSubsts) (names : Names) (w : Written) → one_writes x (substs_in v names ss) ≡ true → IsIn x.text (after_sides w ss)
    in_sides raw.NoSide names w e = absurd (true≢false (sym e))
    in_sides (raw.Side s ss) names w e =
        or_cases (writes x (subst_in v names s)) (one_writes x (substs_in v names ss)) (IsIn x.text (after_sides (after w s) ss)) (λ q. sides_stay ss x.text (after w s) (in_after s names w q)) (in_sides ss names (after w s)) e

  not_beside : (outer : Names) (w : Written) (y : RawName) → Clean (beside outer w y) → IsIn x.text w → same_name x (written y.text) ≡ true → ⊥
  not_beside outer w y h i e =
      let j : x.text ≡ y.text = bytes_tell x.text y.text (text_same y.text e) in
      let k : is_some (found y.text w) ≡ true = ap (λ z. is_some (found z w)) (sym j) ∙ i in
      true≢false (sym k ∙ not_bad _ _ y.place h)

  mutual
    -- what stands beside is not written
    apart : (s : RawSubstTree) (outer names : Names) (w : Written) → Clean (shared outer w s) → IsIn x.text w → writes x (subst_in v names s) ≡ true → ⊥
    apart raw.Skip outer names w h i e = true≢false (sym e)
    apart (raw.Assign y t) outer names w h i e = not_beside outer w y h i e
    apart (raw.Among y d) outer names w h i e = not_beside outer w y h i e
    apart (raw.If f s) outer names w h i e =
        or_cases (writes x (subst_in v names s)) false ⊥ (apart s outer names w h i) (λ q. true≢false (sym q)) e
    apart (raw.IfElse f s t) outer names w h i e =
        or_cases (writes x (subst_in v names s)) (writes x (subst_in v names t)) ⊥ (apart s outer names w h.0 i) (apart t outer names w h.1 i) e
    apart (raw.Choice ss) outer names w h i e = sides_apart ss outer names w h i e
    apart (raw.Any y f s) outer names w h i e = apart s outer (within y (typing_in v names y.text f) names) w h i e
    apart (raw.Parallel s t) outer names w h i e =
        or_cases (writes x (subst_in v names s)) (writes x (subst_in v names t)) ⊥ (apart s outer names w h.0 i) (apart t outer names (after w s) h.1 (stays s x.text w i)) e

    sides_apart : (ss : RawSubsts) (outer names : Names) (w : Written) → Clean (shared_sides outer w ss) → IsIn x.text w → one_writes x (substs_in v names ss) ≡ true → ⊥
    sides_apart raw.NoSide outer names w h i e = true≢false (sym e)
    sides_apart (raw.Side s ss) outer names w h i e =
        or_cases (writes x (subst_in v names s)) (one_writes x (substs_in v names ss)) ⊥ (apart s outer names w h.0 i) (sides_apart ss outer names w h.1 i) e

-- ---- the walk

own_conjunct : (t : TermTree) (d : Domain) → HasConjunct (typing t d) (typing t d)
own_conjunct t (domain.Range lo hi) = refl
own_conjunct t domain.Truth = refl
own_conjunct t (domain.Elems set) = refl
own_conjunct t (domain.Subsets lo hi) = refl
own_conjunct t (domain.ElemSubsets set) = refl

module _ (v : View) (sizes : List ℕ) (outer : Names) where
  among_fits : (names : Names) (scope : Scope) (taken : List Name) → Reflects v names sizes scope taken [] → (x : RawName) (d : RawDomain) → Clean (choice_faults (domain_in v names d) x.place) →
      Fits sizes (among (written x.text) (domain_or (domain_in v names d)))
  among_fits names scope taken r x d h = at (domain_in v names d) refl h
    where
      at : (o : Option Choice) → domain_in v names d ≡ o → Clean (choice_faults o x.place) → Fits sizes (among (written x.text) (domain_or o))
      at None e c = absurd c.0
      at (Some k) e c =
          let w = domain_sized v names sizes (knows_sets v names sizes scope taken [] r) d k e in
          let i = is_domain sizes k x.place w.0 c in
          (own_conjunct (Var any) k.domain, i.0.0, tt)

  mutual
    pub fits_so : (s : RawSubstTree) (names : Names) (scope : Scope) (taken : List Name) → Reflects v names sizes scope taken [] → Reserves names → (rs : Results) (w : Written) → HasSides s →
        Clean (subst_fault v names rs s) → Clean (shared outer w s) → Fits sizes (subst_in v names s)
    fits_so raw.Skip names scope taken r z rs w a h k = tt
    fits_so (raw.Assign x t) names scope taken r z rs w a h k = tt
    fits_so (raw.Among x d) names scope taken r z rs w a h k = among_fits names scope taken r x d h.0.1
    fits_so (raw.If f s) names scope taken r z rs w a h k = (fits_so s names scope taken r z rs w a h.1 k, tt)
    fits_so (raw.IfElse f s t) names scope taken r z rs w a h k =
        (fits_so s names scope taken r z rs w a.0 h.1.0 k.0, fits_so t names scope taken r z (results_after v names rs s) w a.1 h.1.1 k.1)
    fits_so (raw.Choice raw.NoSide) names scope taken r z rs w a h k = absurd a
    fits_so (raw.Choice (raw.Side s ss)) names scope taken r z rs w a h k =
        (fits_so s names scope taken r z rs w a.0 h.0 k.0, each_fits ss names scope taken r z (results_after v names rs s) w a.1 h.1 k.1)
    fits_so (raw.Any x f s) names scope taken r z rs w a h k =
        let c = chosen v sizes scope taken names [] r x f h.0 in
        let o = typing_in v names x.text f in
        let r' = subst (λ o. Reflects v (within x o names) sizes ((written x.text, form_of_domain (domain_or o)) ∷ scope) (written x.text ∷ taken) []) (sym c.is)
        (within_reflects v names sizes scope taken r x c.by c.new c.fits.2) in
        let z' = subst (λ o. Reserves (within x o names)) (sym c.is) (within_reserves v names sizes scope taken r x c.by c.new z) in
        let q = conjunct v v names (within x (Some c.by) names) (within_stays v names sizes scope taken r x c.by c.new) x.text (Var (written x.text)) (within_named v names sizes scope taken r x c.by c.new) f c.by c.is in (
          subst (λ o. HasConjunct (typing (Var (written x.text)) (domain_or o)) (formula_in v (within x o names) f)) (sym c.is) q,
          subst (λ o. HasElements sizes (domain_or o)) (sym c.is) c.fits.0.0,
          fits_so s (within x o names) ((written x.text, form_of_domain (domain_or o)) ∷ scope) (written x.text ∷ taken) r' z' rs w a h.1.1 k,
        )
    fits_so (raw.Parallel s t) names scope taken r z rs w a h k = (
      (λ x p q. apart v x t outer names (after w s) k.1 (in_after v x s names w p) q),
      fits_so s names scope taken r z rs w a.0 h.0 k.0,
      fits_so t names scope taken r z (results_after v names rs s) (after w s) a.1 h.1 k.1,
    )

    each_fits : (ss : RawSubsts) (names : Names) (scope : Scope) (taken : List Name) → Reflects v names sizes scope taken [] → Reserves names → (rs : Results) (w : Written) → EachHasSides ss →
        Clean (sides_fault v names rs ss) → Clean (shared_sides outer w ss) → FitEach sizes (substs_in v names ss)
    each_fits raw.NoSide names scope taken r z rs w a h k = tt
    each_fits (raw.Side s ss) names scope taken r z rs w a h k =
        (fits_so s names scope taken r z rs w a.0 h.0 k.0, each_fits ss names scope taken r z (results_after v names rs s) w a.1 h.1 k.1)

pub substs_fit : SubstsFit
substs_fit v names sizes scope taken r z given s a h k =
    fits_so v sizes names s names scope taken r z given [] a (clean_of (subst_fault v names given s) h) (clean_of (shared names [] s) k)
