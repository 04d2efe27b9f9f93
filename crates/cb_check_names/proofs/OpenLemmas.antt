-- The body of a quantifier with a term of the bound variable's kind in its place fits.
use Rattle.std.proofs.Common.{◌≡◌, ℕ, zero, suc, ◌==◌, Bool, true, false, List, [], ◌∷◌, ◌++◌, length, Some, None, refl, sym, ap, ◌∙◌, subst, arith, slice_get, if◌then◌else◌, true≢false}
use Rattle.std.proofs.lemmas.Bool.{eqb-true, eq-eqb}
use Rattle.std.proofs.lemmas.Option.{same_Some}
use Rattle.cb_term.specs.declared.name.Name.{Name}
use Rattle.cb_term.specs.declared.kind.Kind.{Kind}
use Rattle.cb_term.specs.declared.kind.Kind.TheVariants as kind
use Rattle.cb_term.specs.declared.value.Value.{Value}
use Rattle.cb_term.specs.Tree.{TermTree, Bound, FormulaTree}
use Rattle.cb_term.specs.Values.{IsOf}
use Rattle.cb_term.specs.Change.{name_stays, for_outermost, open_formula}
use Rattle.cb_term.proofs.ValueLemmas.{same_base_tells}
use Rattle.cb_seq.specs.Kinds.{kind_of, fits}
use Rattle.cb_seq.specs.Arguments.{counts_as}
use Rattle.cb_seq.proofs.KindSound.{common_left}
use Rattle.cb_seq.proofs.MoreNames.{kind_more}
use Rattle.cb_check_names.proofs.Mapping.{Below, below_self, by_below, IsBelow, mapped_fits}

pub counts_below : (l k : Kind) → counts_as l k ≡ true → Below l k
counts_below kind.Integer kind.Integer e = refl
counts_below kind.Truth kind.Truth e = refl
counts_below (kind.Elem j) (kind.Elem k) e = ap kind.Elem (eqb-true j k e)
counts_below (kind.SetOf b) (kind.SetOf c) e = ap kind.SetOf (same_base_tells b c e)
counts_below kind.EmptySet (kind.SetOf c) e = tt
counts_below kind.EmptySet kind.EmptySet e = refl
counts_below l k e = absurd (true≢false (sym e))

-- a value of the first kind is one of the second
pub below_value : (sizes : List ℕ) (l k : Kind) (v : Value) → Below l k → IsOf sizes l v → IsOf sizes k v
below_value sizes l k v b = by_below l k b (λ z. IsOf sizes z v → IsOf sizes k v) (λ i. i)
    (λ c e i. subst (λ z. IsOf sizes z v) (sym e) (common_left sizes kind.EmptySet (kind.SetOf c) (kind.SetOf c) v refl i))

get_last : (ks : List Kind) (k : Kind) (j : ℕ) → j ≡ length ks → slice_get (ks ++ k ∷ []) j ≡ Some k
get_last [] k zero e = refl
get_last [] k (suc j) e = absurd (omega (arith, e))
get_last (l ∷ ks) k zero e = absurd (omega (arith, e))
get_last (l ∷ ks) k (suc j) e = get_last ks k j (omega (arith, e))

get_front : (ks : List Kind) (k l : Kind) (j : ℕ) → (j ≡ length ks → ⊥) → slice_get (ks ++ k ∷ []) j ≡ Some l → slice_get ks j ≡ Some l
get_front [] k l zero ne e = absurd (ne refl)
get_front [] k l (suc j) ne e = e
get_front (m ∷ ks) k l zero ne e = e
get_front (m ∷ ks) k l (suc j) ne e = get_front ks k l j (λ e'. ne (ap suc e')) e

none_some : {A : Type 0} {x : A} → None ≡ Some x → ⊥
none_some e = cc

pub fits_open : (sizes : List ℕ) (names : List (Name × Kind)) (t : TermTree) (l k : Kind) → kind_of sizes names [] t ≡ Some l → Below l k →
    (f : FormulaTree) → fits sizes names (k ∷ []) f ≡ true → fits sizes names [] (open_formula t f) ≡ true
fits_open sizes names t l k et below f e =
    mapped_fits sizes names names name_stays (for_outermost t) (λ d ks ks'. (length ks ≡ d) × (ks' ≡ ks ++ k ∷ []))
    (λ d ks ks' m r. (omega (arith, r.0), ap (λ z. m ∷ z) r.1)) (λ d y m ks ks' r i. (m, i, below_self m)) (λ d j m ks ks' r i. at_bound d j m ks ks' r.0 r.1 i (j == d) refl)
    f 0 [] (k ∷ []) (refl, refl) e
  where
    at_bound : (d j : ℕ) (m : Kind) (ks ks' : List Kind) → length ks ≡ d → ks' ≡ ks ++ k ∷ [] → slice_get ks' j ≡ Some m → (b : Bool) → (j == d) ≡ b →
        IsBelow (kind_of sizes names ks (if b then t else Bound j)) m
    at_bound d j m ks ks' len is i true same =
        let there : slice_get (ks ++ k ∷ []) j ≡ Some m = subst (λ z. slice_get z j ≡ Some m) is i in
        let e : k ≡ m = same_Some k m (sym (get_last ks k j (eqb-true j d same ∙ sym len)) ∙ there) in
        (l, kind_more sizes names names (λ y n h. h) t [] ks l (λ n o h. absurd (none_some h)) et, subst (Below l) e below)
    at_bound d j m ks ks' len is i false other =
        (m, get_front ks k m j (λ e'. true≢false (sym (eq-eqb j d (e' ∙ len)) ∙ other)) (subst (λ z. slice_get z j ≡ Some m) is i), below_self m)
