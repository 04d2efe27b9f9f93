-- What is known at each step of a run.
use Rattle.std.proofs.Common.{◌≡◌, ℕ, zero, suc, ◌+◌, ◌<◌, Bool, true, false, if◌then◌else◌, List, [], ◌∷◌, ◌++◌, slice_get, Option, Some, None, unwrap_or, IsSome, inl, inr, Result, Ok, Err, OnOk, refl, sym, ap, subst, ◌∙◌, arith}
use Rattle.cb_term.specs.declared.name.Name.{Name}
use Rattle.cb_term.specs.declared.kind.Kind.{Kind}
use Rattle.cb_term.specs.declared.kind.Domain.{Domain}
use Rattle.cb_term.specs.declared.kind.Domain.TheVariants as domain
use Rattle.cb_term.specs.declared.value.Value.{Value}
use Rattle.cb_term.specs.declared.value.Value.TheVariants as value
use Rattle.cb_term.specs.Names.{same_name}
use Rattle.cb_term.specs.Tree.{TermTree, FormulaTree}
use Rattle.cb_term.specs.Values.{Look, set_at}
use Rattle.cb_term.specs.Holds.{IsValue}
use Rattle.cb_term.proofs.ValueLemmas.{same_name_tells}
use Rattle.cb_spec.specs.SubstTree.{SubstTree, Assign, Together, Choice, AnyOf, sides_of}
use Rattle.cb_spec.specs.declared.subst.Subst.TheDeep.{size-Subst}
use Rattle.cb_spec.specs.SubstSize.{subst_nodes, substs_nodes}
use Rattle.cb_spec.specs.Stores.{Writes, found, Puts}
use Rattle.cb_spec.specs.Domains.{In}
use Rattle.cb_spec.specs.Runs.{Runs, RunsOne, Live, LiveEach, Fits, FitEach}
use Rattle.cb_spec.specs.Forms.{Form, form_of_domain}
use Rattle.cb_spec.specs.FormValues.{IsOfForm}
use Rattle.cb_spec.specs.Sound.{Agrees}
use Rattle.cb_spec.specs.TypedTerms.{Scope, form_in}
use Rattle.cb_spec.specs.TypedSubsts.{TypedSubst, TypedSides}
use Rattle.cb_spec.proofs.RunLemmas.{sides_apart}
use Rattle.cb_relation.specs.Performing.{CanRun, RunsOver}
use Rattle.cb_relation.specs.Trying.{TypedForEach, SomeMeets, IsChosen}

-- ---- the variable of an ANY

-- a value of a domain is of the domain's form
in_form : (sizes : List ℕ) (d : Domain) (v : Value) → In sizes d v → IsOfForm sizes (form_of_domain d) v
in_form sizes (domain.Range lo hi) (value.Int x) i = i
in_form sizes domain.Truth (value.Truth b) i = i
in_form sizes (domain.Elems set) (value.Elem k) i = i
in_form sizes (domain.Subsets lo hi) (value.Set xs) i = i
in_form sizes (domain.ElemSubsets set) (value.Set xs) i = i
in_form sizes d v i = absurd i

-- what is known stays true where a name gets a value of its form
agrees_more : (sizes : List ℕ) (scope : Scope) (look : Look) (z : Name) (f : Form) (v : Value) → Agrees sizes scope look → IsOfForm sizes f v →
    Agrees sizes ((z, f) ∷ scope) (set_at look z v)
agrees_more sizes scope look z f v agrees of x form e =
    elim (same_name x z) as (λ b. (if b then Some f else form_in scope x) ≡ Some form → IsOfForm sizes form (if b then v else look x)) [
      | true ↦ λ e. subst (λ g. IsOfForm sizes g v) (ap (λ o. unwrap_or o f) e) of
      | false ↦ λ e. agrees x form e
    ] e

module _ (sizes : List ℕ) (look : Look) (z : Name) (d : Domain) (p : FormulaTree) (s : SubstTree) (h : CanRun sizes look (AnyOf z d p s)) where
  pub test_typed : TypedForEach sizes look z d p
  test_typed v i = record {
    scope = (z, form_of_domain d) ∷ h.scope;
    taken = z ∷ h.taken;
    agrees = agrees_more sizes h.scope look z (form_of_domain d) v h.agrees (in_form sizes d v i);
    small_sets = h.small_sets;
    typed = h.typed.3;
  }

  pub some_meets : SomeMeets sizes look z d p
  some_meets = h.live.0

  pub body_can_run : (new : Look) → IsChosen sizes look new z d p → CanRun sizes new s
  body_can_run new c = subst (λ l. CanRun sizes l s) (sym c.1.2) (record {
    targets = h.targets;
    scope = (z, form_of_domain d) ∷ h.scope;
    taken = z ∷ h.taken;
    agrees = agrees_more sizes h.scope look z (form_of_domain d) c.0 h.agrees (in_form sizes d c.0 c.1.0);
    small_sets = h.small_sets;
    typed = h.typed.4;
    fits = h.fits.2;
    live = h.live.1 c.0 c.1.0 c.1.1;
  })

  pub over_any : (new : Look) (e f : Writes) → IsChosen sizes look new z d p → RunsOver sizes s new e f → RunsOver sizes (AnyOf z d p s) look e f
  over_any new e f c r = (r.0, ((c.0, (c.1.0, c.1.1, subst (λ l. Runs sizes s l r.0) c.1.2 r.1.0)), r.1.1))

-- a name that gets back what it stood for
pub put_back : (old mid new : Look) (z : Name) (v before : Value) → mid ≡ set_at old z v → before ≡ old z → new ≡ set_at mid z before → new ≡ old
put_back old mid new z v before mid_is before_is new_is = new_is ∙ (λ i. set_at (mid_is i) z (before_is i)) ∙ (λ i y. back y i)
  where
    back : (y : Name) → set_at (set_at old z v) z (old z) y ≡ old y
    back y = by (same_name y z) refl
      where
        by : (b : Bool) → same_name y z ≡ b → (if b then old z else (if b then v else old y)) ≡ old y
        by true e = ap old (sym (same_name_tells y z e))
        by false e = refl

-- ---- the sides of a CHOICE

module _ (sizes : List ℕ) where
  each_fits : (ss : List SubstTree) → Fits sizes (Choice (sides_of ss)) → FitEach sizes (sides_of ss)
  each_fits [] f = absurd f
  each_fits (s ∷ ss) f = f

  side_can : (targets : List (Name × Kind)) (scope : Scope) (taken : List Name) (look : Look) (ss : List SubstTree) (k : ℕ) (s : SubstTree) →
      slice_get ss k ≡ Some s → TypedSides sizes targets scope taken (sides_of ss) → FitEach sizes (sides_of ss) → LiveEach sizes (sides_of ss) look →
      TypedSubst sizes targets scope taken s × Fits sizes s × Live sizes s look
  side_can targets scope taken look [] k s e t f l = absurd (cc)
  side_can targets scope taken look (x ∷ ss) zero s e t f l =
      subst (λ r. TypedSubst sizes targets scope taken r × Fits sizes r × Live sizes r look) (ap (λ o. unwrap_or o x) e) (t.0, f.0, l.0)
  side_can targets scope taken look (x ∷ ss) (suc k) s e t f l = side_can targets scope taken look ss k s e t.1 f.1 l.1

  pub side_can_run : (look : Look) (ss : List SubstTree) (k : ℕ) (s : SubstTree) → slice_get ss k ≡ Some s → CanRun sizes look (Choice (sides_of ss)) → CanRun sizes look s
  side_can_run look ss k s e h =
      let c = side_can h.targets h.scope h.taken look ss k s e h.typed (each_fits ss h.fits) h.live in
      record { targets = h.targets; scope = h.scope; taken = h.taken; agrees = h.agrees; small_sets = h.small_sets; typed = c.0; fits = c.1; live = c.2 }

  one_runs : (look : Look) (d : Writes) (ss : List SubstTree) (k : ℕ) (s : SubstTree) → slice_get ss k ≡ Some s → Runs sizes s look d → RunsOne sizes (sides_of ss) look d
  one_runs look d [] k s e r = absurd (cc)
  one_runs look d (x ∷ ss) zero s e r = inl (subst (λ t. Runs sizes t look d) (sym (ap (λ o. unwrap_or o x) e)) r)
  one_runs look d (x ∷ ss) (suc k) s e r = inr (one_runs look d ss k s e r)

  pub over_side : (look : Look) (ss : List SubstTree) (k : ℕ) (s : SubstTree) (e f : Writes) → slice_get ss k ≡ Some s → RunsOver sizes s look e f →
      RunsOver sizes (Choice (sides_of ss)) look e f
  over_side look ss k s e f is r = (r.0, (one_runs look r.0 ss k s is r.1.0, r.1.1))

fewer_nodes : (ss : List SubstTree) (k : ℕ) (s : SubstTree) → slice_get ss k ≡ Some s → subst_nodes s < substs_nodes (sides_of ss) + 1
fewer_nodes [] k s e = absurd (cc)
fewer_nodes (x ∷ ss) zero s e = subst (λ t. subst_nodes t < subst_nodes x + substs_nodes (sides_of ss) + 1) (ap (λ o. unwrap_or o x) e) (omega arith)
fewer_nodes (x ∷ ss) (suc k) s e = omega (arith, fewer_nodes ss k s e)

pub side_smaller : (ss : List SubstTree) (k : ℕ) (s : SubstTree) → slice_get ss k ≡ Some s → size-Subst s < size-Subst (Choice (sides_of ss))
side_smaller ss k s e = omega (arith, fewer_nodes ss k s e)

pub body_smaller : (z : Name) (d : Domain) (p : FormulaTree) (s : SubstTree) → size-Subst s < size-Subst (AnyOf z d p s)
body_smaller z d p s = omega arith

-- ---- maps of writes

-- the first that is there
abbrev either : Option Value → Option Value → Option Value
either None o = o
either (Some v) o = Some v

found_either : (d e : Writes) (y : Name) → found (d ++ e) y ≡ either (found d y) (found e y)
found_either [] e y = refl
found_either (p ∷ d) e y =
    elim (same_name y p.0) as (λ b. (if b then Some p.1 else found (d ++ e) y) ≡ either (if b then Some p.1 else found d y) (found e y)) [
      | true ↦ refl
      | false ↦ found_either d e y
    ]

-- maps without a name in common may be taken in either order
turned : (a b c : Option Value) → (IsSome a → IsSome b → ⊥) → either b (either a c) ≡ either (either a b) c
turned None b c apart = refl
turned (Some u) None c apart = refl
turned (Some u) (Some v) c apart = absurd (apart refl refl)

pub over_both : (sizes : List ℕ) (look : Look) (a b : SubstTree) (e f g : Writes) → Fits sizes (Together a b) → RunsOver sizes a look e f → RunsOver sizes b look f g →
    RunsOver sizes (Together a b) look e g
over_both sizes look a b e f g fits ra rb =
    let apart = sides_apart sizes a b look ra.0 rb.0 fits ra.1.0 rb.1.0 in (
      ra.0 ++ rb.0,
      (
        (ra.0, (rb.0, (ra.1.0, rb.1.0, apart, refl))),
        λ y.
            rb.1.1 y ∙ found_either rb.0 f y ∙ ap (either (found rb.0 y)) (ra.1.1 y ∙ found_either ra.0 e y)
            ∙ turned (found ra.0 y) (found rb.0 y) (found e y) (apart y)
            ∙ sym (found_either (ra.0 ++ rb.0) e y ∙ ap (λ o. either o (found e y)) (found_either ra.0 rb.0 y)),
      ),
    )

pub over_assign : (sizes : List ℕ) (look : Look) (x : Name) (t : TermTree) (v : Value) (e f : Writes) → IsValue sizes look t [] v → Puts e f x v →
    RunsOver sizes (Assign x t) look e f
over_assign sizes look x t v e f is puts = ((x, v) ∷ [], ((v, (is, refl)), puts.found_is))

-- ---- answers

pub on_ok : {T E P Q : Type 0} (r : Result T E) → OnOk r P → (P → Q) → OnOk r Q
on_ok (Ok v) p f = f p
on_ok (Err e) p f = tt
