-- When the leaves of trees, and values, are equal.
use Rattle.std.proofs.Common.{◌≡◌, ◌==◌, Bool, true, false, List, [], ◌∷◌, ℤ, refl, sym, ap, ap₂, true≢false}
use Rattle.std.specs.Ordering.{int_eq}
use Rattle.std.proofs.lemmas.Bool.{eq-eqb, eqb-true, and_from, and_parts}
use Rattle.std.proofs.lemmas.Bool.Decides.{Decides-int_eq}
use Rattle.std.proofs.lemmas.Slice.Eq.{bytes_eq-Decides}
use Rattle.std.specs.Prelude.{bytes_eq}
use Rattle.cb_term.specs.declared.name.Name.{Name}
use Rattle.cb_term.specs.declared.kind.Kind.{Kind}
use Rattle.cb_term.specs.declared.kind.Kind.TheVariants as kind
use Rattle.cb_term.specs.declared.kind.Base.{Base}
use Rattle.cb_term.specs.declared.kind.Base.TheVariants as base
use Rattle.cb_term.specs.declared.sign.TermSign.{TermSign}
use Rattle.cb_term.specs.declared.sign.TermSign.TheVariants.{Add, Minus, Mul, Div, Mod, Range, Union, Inter}
use Rattle.cb_term.specs.declared.sign.RelSign.{RelSign}
use Rattle.cb_term.specs.declared.sign.RelSign.TheVariants.{Equal, Less, AtMost, Member, Subset}
use Rattle.cb_term.specs.declared.value.Value.{Value}
use Rattle.cb_term.specs.declared.value.Value.TheVariants as value
use Rattle.cb_term.specs.Names.{same_name}
use Rattle.cb_term.specs.Kinds.{same_base, same_kind}
use Rattle.cb_term.specs.Signs.{same_sign, same_rel}
use Rattle.cb_term.specs.Sets.{same_items}
use Rattle.cb_term.specs.Values.{same_truth}
use Rattle.cb_term.proofs.HoldsLemmas.{IsStable}

-- ---- what the tests take for the same is

pub same_name_tells : (x y : Name) → same_name x y ≡ true → x ≡ y
same_name_tells x y e =
    let p = and_parts (bytes_eq x.text y.text) (x.number == y.number) e in
    let t : x.text ≡ y.text = (bytes_eq-Decides x.text y.text).0 p.0 in
    let n : x.number ≡ y.number = eqb-true x.number y.number p.1 in
    ap₂ (λ a b. let z : Name = record { text = a; number = b } in z) t n

pub same_name_self : (x : Name) → same_name x x ≡ true
same_name_self x = and_from _ _ ((bytes_eq-Decides x.text x.text).1 refl) (eq-eqb x.number x.number refl)

pub same_truth_tells : (b c : Bool) → same_truth b c ≡ true → b ≡ c
same_truth_tells true true e = refl
same_truth_tells false false e = refl
same_truth_tells b c e = cc

pub same_sign_tells : (r s : TermSign) → same_sign r s ≡ true → r ≡ s
same_sign_tells Add Add e = refl
same_sign_tells Minus Minus e = refl
same_sign_tells Mul Mul e = refl
same_sign_tells Div Div e = refl
same_sign_tells Mod Mod e = refl
same_sign_tells Range Range e = refl
same_sign_tells Union Union e = refl
same_sign_tells Inter Inter e = refl
same_sign_tells r s e = cc

pub same_rel_tells : (r s : RelSign) → same_rel r s ≡ true → r ≡ s
same_rel_tells Equal Equal e = refl
same_rel_tells Less Less e = refl
same_rel_tells AtMost AtMost e = refl
same_rel_tells Member Member e = refl
same_rel_tells Subset Subset e = refl
same_rel_tells r s e = cc

pub same_base_tells : (b c : Base) → same_base b c ≡ true → b ≡ c
same_base_tells base.Integer base.Integer e = refl
same_base_tells base.Truth base.Truth e = refl
same_base_tells (base.Elem j) (base.Elem k) e = ap base.Elem (eqb-true j k e)
same_base_tells b c e = cc

pub same_kind_tells : (k l : Kind) → same_kind k l ≡ true → k ≡ l
same_kind_tells kind.Integer kind.Integer e = refl
same_kind_tells kind.Truth kind.Truth e = refl
same_kind_tells (kind.Elem j) (kind.Elem k) e = ap kind.Elem (eqb-true j k e)
same_kind_tells (kind.SetOf b) (kind.SetOf c) e = ap kind.SetOf (same_base_tells b c e)
same_kind_tells kind.EmptySet kind.EmptySet e = refl
same_kind_tells k l e = cc

-- ---- values

pub same_items_tells : (xs ys : List ℤ) → (same_items xs ys ≡ true → xs ≡ ys) × (xs ≡ ys → same_items xs ys ≡ true)
same_items_tells [] [] = ((λ _. refl), (λ _. refl))
same_items_tells [] (y ∷ ys) = ((λ e. cc), (λ e. cc))
same_items_tells (x ∷ xs) [] = ((λ e. cc), (λ e. cc))
same_items_tells (x ∷ xs) (y ∷ ys) = (
  (λ e. let p = and_parts _ _ e in let f = (Decides-int_eq x y).0 p.0 in let g = (same_items_tells xs ys).0 p.1 in cc (f, g)),
  (λ e. let f : x ≡ y = cc (e) in let g : xs ≡ ys = cc (e) in and_from _ _ ((Decides-int_eq x y).1 f) ((same_items_tells xs ys).1 g)),
)

stable_by : {A : Type 0} (b : Bool) → (b ≡ true → A) → (A → b ≡ true) → IsStable A
stable_by true f g h = f refl
stable_by false f g h = absurd (h (λ a. true≢false (sym (g a))))

same_truth_of : (a b : Bool) → a ≡ b → same_truth a b ≡ true
same_truth_of true true e = refl
same_truth_of false false e = refl
same_truth_of a b e = cc

-- that two values are equal cannot fail and yet not be so
pub value_stable : (u v : Value) → IsStable (u ≡ v)
value_stable (value.Int x) (value.Int y) = stable_by (int_eq x y) (λ e. ap value.Int ((Decides-int_eq x y).0 e)) (λ e. (Decides-int_eq x y).1 (cc (e)))
value_stable (value.Truth a) (value.Truth b) = stable_by (same_truth a b) (λ e. ap value.Truth (same_truth_tells a b e)) (λ e. same_truth_of a b (cc (e)))
value_stable (value.Elem j) (value.Elem k) = stable_by (j == k) (λ e. ap value.Elem (eqb-true j k e)) (λ e. eq-eqb j k (cc (e)))
value_stable (value.Set xs) (value.Set ys) = stable_by (same_items xs ys) (λ e. ap value.Set ((same_items_tells xs ys).0 e)) (λ e. (same_items_tells xs ys).1 (cc (e)))
value_stable u v = λ h. absurd (h (λ e. cc))
