-- The substitutions of the tests can run from the empty store.
use Rattle.std.proofs.Common.{◌≡◌, ℤ, pos, ◌≤ℤ◌, ◌-ℤ◌, true, false, inl, if◌then◌else◌, List, [], ◌∷◌, Some, None, unwrap_or, refl, ap, subst, arith}
use Rattle.std.proofs.lemmas.Int.{ints}
use Rattle.cb_term.specs.declared.name.Name.{Name}
use Rattle.cb_term.specs.declared.kind.Kind.{Kind}
use Rattle.cb_term.specs.declared.kind.Kind.TheVariants as kind
use Rattle.cb_term.specs.declared.kind.Base.TheVariants as base
use Rattle.cb_term.specs.declared.kind.Domain.TheVariants as domain
use Rattle.cb_term.specs.declared.value.Value.TheVariants as value
use Rattle.cb_term.specs.Names.{same_name}
use Rattle.cb_term.specs.Values.{nothing, set_at}
use Rattle.cb_term.proofs.ValueLemmas.{same_name_tells}
use Rattle.cb_spec.specs.SubstTree.{SubstTree}
use Rattle.cb_spec.specs.Stores.{empty}
use Rattle.cb_spec.specs.Runs.{Live, Fits, writes}
use Rattle.cb_spec.specs.Forms.{Number}
use Rattle.cb_spec.specs.FormValues.{IsOfForm}
use Rattle.cb_spec.specs.Sound.{Agrees}
use Rattle.cb_spec.specs.TypedTerms.{Scope}
use Rattle.cb_spec.specs.TypedSubsts.{TypedSubst}
use Rattle.cb_spec.proofs.DomainLemmas.{domain_typing}
use Rattle.cb_eval.proofs.SetLemmas.{lt_true}
use Rattle.cb_samples.specs.Performed.{m, n, z, one_or_two, if_zero, nested, last_of, set_with_one}
use Rattle.cb_relation.specs.Performing.{CanRun}

-- n is a number from 0 to 9
abbrev known : Scope
known = (n, Number (pos 0) (pos 9)) ∷ []

agrees : Agrees [] known empty
agrees x form e =
    elim (same_name x n) as (λ b. (if b then Some (Number (pos 0) (pos 9)) else None) ≡ Some form → IsOfForm [] form nothing) [
      | true ↦ λ e. subst (λ f. IsOfForm [] f nothing) (ap (λ o. unwrap_or o (Number (pos 0) (pos 9))) e) (omega (arith, ints), omega (arith, ints))
      | false ↦ λ e. absurd (cc)
    ] e

-- what may be assigned to: n of the kind, and numbers to m
abbrev targets : Kind → List (Name × Kind)
targets k = (n, k) ∷ (m, kind.Integer) ∷ []

can_run : (k : Kind) (s : SubstTree) → TypedSubst [] (targets k) known [] s → Fits [] s → Live [] s empty → CanRun [] empty s
can_run k s typed fits live = record {
  targets = targets k;
  scope = known;
  taken = [];
  agrees = agrees;
  small_sets = λ set. omega arith;
  typed = typed;
  fits = fits;
  live = live;
}

pub one_or_two_can_run : CanRun [] empty one_or_two
one_or_two_can_run = can_run kind.Integer one_or_two
    (((omega (arith, ints), omega (arith, ints)), refl), (((omega (arith, ints), omega (arith, ints)), refl), tt))
    (tt, (tt, tt))
    (tt, (tt, tt))

pub nested_can_run : CanRun [] empty nested
nested_can_run = can_run kind.Integer nested (
  (
    ((omega (arith, ints), omega (arith, ints)), refl),
    (
      ((omega (arith, ints), omega (arith, ints)), (omega (arith, ints), omega (arith, ints)), refl),
      ((omega (arith, ints), omega (arith, ints)), refl),
      ((omega (arith, ints), omega (arith, ints)), refl),
    ),
  ),
  (
    (((omega (arith, ints), omega (arith, ints)), refl), (((omega (arith, ints), omega (arith, ints)), refl), tt)),
    tt,
  ),
)
    ((write_apart, tt, (tt, tt)), ((tt, (tt, tt)), tt))
    ((tt, ((λ t. tt), (λ f. tt))), ((tt, (tt, tt)), tt))
  where
    write_apart : (x : Name) → same_name x n ≡ true → writes x if_zero ≡ true → ⊥
    write_apart x is_n is_m =
        let at_n : writes n if_zero ≡ true = subst (λ y. writes y if_zero ≡ true) (same_name_tells x n is_n) is_m in cc

pub last_of_can_run : (last : ℤ) → pos 1 ≤ℤ last → last ≤ℤ pos 65536 → CanRun [] empty (last_of last)
last_of_can_run last low high = can_run kind.Integer (last_of last) (
  (refl, refl),
  (low, tt),
  omega (arith, ints, high),
  (
    (
      (omega (arith, ints), omega (arith, ints, high)),
      ((omega (arith, ints), omega (arith, ints)), (omega (arith, ints, low), omega (arith, ints, high)), tt),
      refl,
    ),
    (
      (omega (arith, ints, low), omega (arith, ints, high)),
      (omega (arith, ints), omega (arith, ints, high)),
      refl,
    ),
  ),
  ((omega (arith, ints), omega (arith, ints, high)), refl),
)
    (inl refl, low, tt) (
      (λ fails. fails (value.Int last) is_in (((domain_typing [] (domain.Range (pos 1) last) (set_at empty z (value.Int last)) z).0 is_in).1, lt_true (last -ℤ pos 1) last (omega (arith, ints)))),
      λ v i t. tt,
    )
  where
    is_in : (pos 1 ≤ℤ last) × (last ≤ℤ last)
    is_in = (low, omega (arith, ints))

pub set_with_one_can_run : CanRun [] empty set_with_one
set_with_one_can_run = can_run (kind.SetOf base.Integer) set_with_one (
  (refl, refl),
  (omega (arith, ints), omega (arith, ints)),
  omega (arith, ints),
  (
    (omega (arith, ints), ((omega (arith, ints), omega (arith, ints)), (omega (arith, ints), omega (arith, ints)), tt), refl),
    ((omega (arith, ints), omega (arith, ints)), omega (arith, ints), refl),
  ),
  (omega (arith, ints), refl),
)
    (inl refl, omega (arith, ints), tt) (
      (λ fails. fails (value.Set (pos 1 ∷ [])) (tt, ((omega (arith, ints), omega (arith, ints)), tt)) (refl, refl)),
      λ v i t. tt,
    )
