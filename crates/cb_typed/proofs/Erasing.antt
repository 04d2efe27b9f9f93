-- A term's kind is that of its form.
use Rattle.std.proofs.Common.{◌≡◌, ℕ, zero, suc, ◌==◌, ℤ, pos, Bool, true, false, List, [], ◌∷◌, map, length, Option, Some, None, IsSomeAnd, is_some, refl, sym, ap, ◌∙◌, subst, slice_get, if◌then◌else◌, int_lt}
use Rattle.std.specs.Int.{int_min, int_max}
use Rattle.std.specs.Prelude.{nat_lt}
use Rattle.std.proofs.lemmas.Bool.{and_from, eqb-true, eq-eqb}
use Rattle.std.proofs.lemmas.Option.{same_Some}
use Rattle.cb_term.specs.declared.name.Name.{Name}
use Rattle.cb_term.specs.declared.kind.Kind.{Kind}
use Rattle.cb_term.specs.declared.kind.Kind.TheVariants as kind
use Rattle.cb_term.specs.declared.kind.Base.TheVariants as base
use Rattle.cb_term.specs.declared.kind.Domain.{Domain}
use Rattle.cb_term.specs.declared.kind.Domain.TheVariants as domain
use Rattle.cb_term.specs.declared.sign.TermSign.{TermSign}
use Rattle.cb_term.specs.declared.sign.TermSign.TheVariants.{Add, Minus, Mul, Div, Mod, Range, Union, Inter}
use Rattle.cb_term.specs.declared.sign.RelSign.{RelSign}
use Rattle.cb_term.specs.declared.sign.RelSign.TheVariants.{Equal, Less, AtMost, Member, Subset}
use Rattle.cb_term.specs.Names.{same_name}
use Rattle.cb_term.specs.Tree as tree
use Rattle.cb_term.specs.Tree.{TermTree, TermTrees, FormulaTree}
use Rattle.cb_term.specs.Values.{size_of_set}
use Rattle.cb_seq.specs.Kinds.{kind_in, common_set, bin_kind, neg_kind, card_kind, more_kind, rel_kinds, one_kind, both_kinds, both_fit, kind_of, kind_of_all, fits}
use Rattle.cb_spec.specs.Domains as domains
use Rattle.cb_spec.specs.Forms.{Form, Number, Truth, Element, Numbers, TruthSet, Elements, Empty, form_of_domain, hull, joined_form, is_some_form, single, with_both, left_set, divides, bin_form, neg_form, card_form, may_relate}
use Rattle.cb_spec.specs.TypedTerms.{Scope, form_in, then_form, literal, form_of, form_of_listed, is_membership, TypedTerm, TypedTerms, TypedFormula}
use Rattle.cb_typed.specs.Erasure.{kind_of_form, kinds_in, kinds_under}

-- what is made is of the kind
made : (f c : Form) (k : Kind) → kind_of_form f ≡ k → Some f ≡ Some c → Some k ≡ Some (kind_of_form c)
made f c k e s = ap Some (sym e) ∙ ap (λ z. Some (kind_of_form z)) (same_Some f c s)

made_if : (b : Bool) (f c : Form) (k : Kind) → kind_of_form f ≡ k → (if b then Some f else None) ≡ Some c → Some k ≡ Some (kind_of_form c)
made_if true f c k e s = made f c k e s
made_if false f c k e s = cc

made_if_kind : (b : Bool) (f c : Form) (k : Kind) → kind_of_form f ≡ k → (if b then Some f else None) ≡ Some c → (if b then Some k else None) ≡ Some (kind_of_form c)
made_if_kind true f c k e s = made f c k e s
made_if_kind false f c k e s = cc

hull_kind : (a b c d : ℤ) → kind_of_form (hull a b c d) ≡ kind.SetOf base.Integer
hull_kind a b c d = elim (int_lt b a) as (λ t. kind_of_form (if t then Numbers c d else (if int_lt d c then Numbers a b else Numbers (int_min a c) (int_max b d))) ≡ kind.SetOf base.Integer) [
  | true ↦ refl
  | false ↦ elim (int_lt d c) as (λ t. kind_of_form (if t then Numbers a b else Numbers (int_min a c) (int_max b d)) ≡ kind.SetOf base.Integer) [ true ↦ refl | false ↦ refl ]
]

elements_join : (j k : ℕ) (b : Bool) (f c : Form) → kind_of_form f ≡ kind.SetOf (base.Elem j) → (if b then Some f else None) ≡ Some c →
    (if b then Some (kind.SetOf (base.Elem j)) else None) ≡ Some (kind_of_form c)
elements_join j k true f c e s = made f c _ e s
elements_join j k false f c e s = cc

pub joined_kind : (a b c : Form) → joined_form a b ≡ Some c → common_set (kind_of_form a) (kind_of_form b) ≡ Some (kind_of_form c)
joined_kind (Numbers lo hi) (Numbers lo' hi') c e = made (hull lo hi lo' hi') c (kind.SetOf base.Integer) (hull_kind lo hi lo' hi') e
joined_kind TruthSet TruthSet c e = made TruthSet c (kind.SetOf base.Truth) refl e
joined_kind (Elements j) (Elements k) c e = elements_join j k (j == k) (Elements j) c refl e
joined_kind Empty Empty c e = made Empty c kind.EmptySet refl e
joined_kind Empty (Numbers lo hi) c e = made (Numbers lo hi) c (kind.SetOf base.Integer) refl e
joined_kind Empty TruthSet c e = made TruthSet c (kind.SetOf base.Truth) refl e
joined_kind Empty (Elements k) c e = made (Elements k) c (kind.SetOf (base.Elem k)) refl e
joined_kind (Numbers lo hi) Empty c e = made (Numbers lo hi) c (kind.SetOf base.Integer) refl e
joined_kind TruthSet Empty c e = made TruthSet c (kind.SetOf base.Truth) refl e
joined_kind (Elements j) Empty c e = made (Elements j) c (kind.SetOf (base.Elem j)) refl e
joined_kind a b c e = cc

pub left_kind : (a b c : Form) → left_set a b ≡ Some c → common_set (kind_of_form a) (kind_of_form b) ≡ Some (kind_of_form c)
left_kind (Numbers lo hi) (Numbers lo' hi') c e = made (Numbers lo hi) c (kind.SetOf base.Integer) refl e
left_kind TruthSet TruthSet c e = made TruthSet c (kind.SetOf base.Truth) refl e
left_kind (Elements j) (Elements k) c e = by (j == k) e
  where
    by : (b : Bool) → (if is_some_form (if b then Some (Elements j) else None) then Some (Elements j) else None) ≡ Some c → (if b then Some (kind.SetOf (base.Elem j)) else None) ≡ Some (kind_of_form c)
    by true s = made (Elements j) c (kind.SetOf (base.Elem j)) refl s
    by false s = cc
left_kind Empty Empty c e = made Empty c kind.EmptySet refl e
left_kind Empty (Numbers lo hi) c e = made _ c (kind.SetOf base.Integer) refl e
left_kind Empty TruthSet c e = made TruthSet c (kind.SetOf base.Truth) refl e
left_kind Empty (Elements k) c e = made (Elements k) c (kind.SetOf (base.Elem k)) refl e
left_kind (Numbers lo hi) Empty c e = made (Numbers lo hi) c (kind.SetOf base.Integer) refl e
left_kind TruthSet Empty c e = made TruthSet c (kind.SetOf base.Truth) refl e
left_kind (Elements j) Empty c e = made (Elements j) c (kind.SetOf (base.Elem j)) refl e
left_kind a b c e = cc

minus_kind : (l : Option ℤ) (a b c : Form) → bin_form Minus l a b ≡ Some c → bin_kind Minus (kind_of_form a) (kind_of_form b) ≡ Some (kind_of_form c)
minus_kind l (Number x y) (Number z w) c e = made _ c kind.Integer refl e
minus_kind l (Numbers x y) b c e = left_kind (Numbers x y) b c e
minus_kind l TruthSet b c e = left_kind TruthSet b c e
minus_kind l (Elements j) b c e = left_kind (Elements j) b c e
minus_kind l Empty b c e = left_kind Empty b c e
minus_kind l a b c e = cc

union_kind : (l : Option ℤ) (a b c : Form) → joined_form a b ≡ Some c → bin_kind Union (kind_of_form a) (kind_of_form b) ≡ Some (kind_of_form c)
union_kind l a b c e = joined_kind a b c e

pub bin_form_kind : (s : TermSign) (l : Option ℤ) (a b c : Form) → bin_form s l a b ≡ Some c → bin_kind s (kind_of_form a) (kind_of_form b) ≡ Some (kind_of_form c)
bin_form_kind Add l (Number x y) (Number z w) c e = made _ c kind.Integer refl e
bin_form_kind Minus l a b c e = minus_kind l a b c e
bin_form_kind Mul l (Number x y) (Number z w) c e = made _ c kind.Integer refl e
bin_form_kind Div l (Number x y) (Number z w) c e = made_if (divides x l) _ c kind.Integer refl e
bin_form_kind Mod l (Number x y) (Number z w) c e = made_if (divides x l) _ c kind.Integer refl e
bin_form_kind Range l (Number x y) (Number z w) c e = made _ c (kind.SetOf base.Integer) refl e
bin_form_kind Union l a b c e = joined_kind a b c e
bin_form_kind Inter l a b c e = left_kind a b c e
bin_form_kind s l a b c e = cc

neg_form_kind : (a c : Form) → neg_form a ≡ Some c → neg_kind (kind_of_form a) ≡ Some (kind_of_form c)
neg_form_kind (Number x y) c e = made _ c kind.Integer refl e
neg_form_kind a c e = cc

card_form_kind : (a c : Form) → card_form a ≡ Some c → card_kind (kind_of_form a) ≡ Some (kind_of_form c)
card_form_kind (Numbers x y) c e = made _ c kind.Integer refl e
card_form_kind TruthSet c e = made _ c kind.Integer refl e
card_form_kind (Elements j) c e = by (j == j) e
  where
    by : (b : Bool) → (if is_some_form (if b then Some (Elements j) else None) then Some (Number (pos 0) (pos 256)) else None) ≡ Some c → Some kind.Integer ≡ Some (kind_of_form c)
    by true s = made _ c kind.Integer refl s
    by false s = cc
card_form_kind Empty c e = made _ c kind.Integer refl e
card_form_kind a c e = cc

single_kind : (a b c d : Form) → single a ≡ Some b → joined_form b c ≡ Some d → more_kind (kind_of_form a) (kind_of_form c) ≡ Some (kind_of_form d)
single_kind (Number x y) b c d e j = joined_kind (Numbers x y) c d (ap (λ z. joined_form z c) (same_Some _ _ e) ∙ j)
single_kind Truth b c d e j = joined_kind TruthSet c d (ap (λ z. joined_form z c) (same_Some _ _ e) ∙ j)
single_kind (Element k) b c d e j = joined_kind (Elements k) c d (ap (λ z. joined_form z c) (same_Some _ _ e) ∙ j)
single_kind a b c d e j = cc

some_of : (o : Option Form) → is_some_form o ≡ true → (c : Form) × (o ≡ Some c)
some_of None e = cc
some_of (Some c) e = (c, refl)

sets_kind : (a b : Form) → is_some_form (joined_form a b) ≡ true → is_some (common_set (kind_of_form a) (kind_of_form b)) ≡ true
sets_kind a b e = let c = some_of (joined_form a b) e in ap is_some (joined_kind a b c.0 c.1)

equal_kinds : (a b : Form) → may_relate Equal a b ≡ true → rel_kinds Equal (kind_of_form a) (kind_of_form b) ≡ true
equal_kinds (Number x y) (Number z w) e = refl
equal_kinds Truth Truth e = refl
equal_kinds (Element j) (Element k) e = e
equal_kinds (Numbers x y) b e = sets_kind (Numbers x y) b e
equal_kinds TruthSet b e = sets_kind TruthSet b e
equal_kinds (Elements j) b e = sets_kind (Elements j) b e
equal_kinds Empty b e = sets_kind Empty b e
equal_kinds a b e = cc

member_kinds : (a b : Form) → may_relate Member a b ≡ true → rel_kinds Member (kind_of_form a) (kind_of_form b) ≡ true
member_kinds (Number x y) (Numbers z w) e = refl
member_kinds (Number x y) Empty e = refl
member_kinds Truth TruthSet e = refl
member_kinds Truth Empty e = refl
member_kinds (Element j) (Elements k) e = by (j == k) (eqb-true j k) e
  where
    by : (b : Bool) → (b ≡ true → j ≡ k) → is_some_form (if b then Some (Elements j) else None) ≡ true → (k == j) ≡ true
    by true same e = eq-eqb k j (sym (same refl))
    by false same e = cc
member_kinds (Element j) Empty e = refl
member_kinds a b e = cc

pub related_kinds : (s : RelSign) (a b : Form) → may_relate s a b ≡ true → rel_kinds s (kind_of_form a) (kind_of_form b) ≡ true
related_kinds Equal a b e = equal_kinds a b e
related_kinds Less (Number x y) (Number z w) e = refl
related_kinds AtMost (Number x y) (Number z w) e = refl
related_kinds Member a b e = member_kinds a b e
related_kinds Subset a b e = sets_kind a b e
related_kinds s a b e = cc

pub domain_kind : (d : Domain) → kind_of_form (form_of_domain d) ≡ domains.kind_of_domain d
domain_kind (domain.Range lo hi) = refl
domain_kind domain.Truth = refl
domain_kind (domain.Elems set) = refl
domain_kind (domain.Subsets lo hi) = refl
domain_kind (domain.ElemSubsets set) = refl

pub name_kind : (scope : Scope) (x : Name) (f : Form) → form_in scope x ≡ Some f → kind_in (kinds_in scope) x ≡ Some (kind_of_form f)
name_kind [] x f e = cc
name_kind (p ∷ scope) x f e = by (same_name x p.0) e (name_kind scope x f)
  where
    by : (b : Bool) → (if b then Some p.1 else form_in scope x) ≡ Some f → (form_in scope x ≡ Some f → kind_in (kinds_in scope) x ≡ Some (kind_of_form f)) →
        (if b then Some (kind_of_form p.1) else kind_in (kinds_in scope) x) ≡ Some (kind_of_form f)
    by true e r = made p.1 f (kind_of_form p.1) refl e
    by false e r = r e

bound_kind : (inner : Scope) (j : ℕ) (f : Form) → slice_get (map (λ (p : Name × Form). p.1) inner) j ≡ Some f → slice_get (kinds_under inner) j ≡ Some (kind_of_form f)
bound_kind [] j f e = cc
bound_kind (p ∷ inner) zero f e = made p.1 f (kind_of_form p.1) refl e
bound_kind (p ∷ inner) (suc j) f e = bound_kind inner j f e

pub both_forms : (o p : Option Form) (g : Form → Form → Option Form) (f : Form) → with_both o p g ≡ Some f → (a : Form) × (b : Form) × (o ≡ Some a) × (p ≡ Some b) × (g a b ≡ Some f)
both_forms None p g f e = cc
both_forms (Some a) None g f e = cc
both_forms (Some a) (Some b) g f e = (a, b, refl, refl, e)

pub then_some : (o : Option Form) (g : Form → Option Form) (f : Form) → then_form o g ≡ Some f → (a : Form) × (o ≡ Some a) × (g a ≡ Some f)
then_some None g f e = cc
then_some (Some a) g f e = (a, refl, e)

pub some_and : {T : Type 0} (o : Option T) (P : T → Type 0) → IsSomeAnd o P → (x : T) × (o ≡ Some x) × P x
some_and None P h = absurd h
some_and (Some x) P h = (x, refl, h)

two_kinds : (g : Kind → Kind → Option Kind) (o p : Option Kind) (k l m : Kind) → o ≡ Some k → p ≡ Some l → g k l ≡ Some m → both_kinds g o p ≡ Some m
two_kinds g o p k l m a b e = ap (λ z. both_kinds g z p) a ∙ ap (λ z. both_kinds g (Some k) z) b ∙ e

module _ (sizes : List ℕ) (scope : Scope) (taken : List Name) where
  mutual
    pub term_kind : (t : TermTree) (inner : Scope) (r : Bool) (f : Form) → TypedTerm sizes scope taken r inner t → form_of sizes scope inner t ≡ Some f →
        kind_of sizes (kinds_in scope) (kinds_under inner) t ≡ Some (kind_of_form f)
    term_kind (tree.Var x) inner r f w e = name_kind scope x f e
    term_kind (tree.Bound j) inner r f w e = bound_kind inner j f e
    term_kind (tree.Num n) inner r f w e = made (Number n n) f kind.Integer refl e
    term_kind (tree.Truth b) inner r f w e = made Truth f kind.Truth refl e
    term_kind (tree.Elem set i) inner r f w e = made_if_kind (nat_lt i (size_of_set sizes set)) (Element set) f (kind.Elem set) refl e
    term_kind (tree.Bin s a b) inner r f w e =
        let p = both_forms (form_of sizes scope inner a) (form_of sizes scope inner b) (bin_form s (literal b)) f e in
        two_kinds (bin_kind s) _ _ (kind_of_form p.0) (kind_of_form p.1) (kind_of_form f)
        (term_kind a inner false p.0 w.0 p.2) (term_kind b inner false p.1 w.1 p.3) (bin_form_kind s (literal b) p.0 p.1 f p.4)
    term_kind (tree.Neg a) inner r f w e =
        let p = then_some (form_of sizes scope inner a) neg_form f e in
        ap (λ z. one_kind neg_kind z) (term_kind a inner false p.0 w.0 p.1) ∙ neg_form_kind p.0 f p.2
    term_kind (tree.Card a) inner r f w e =
        let p = then_some (form_of sizes scope inner a) card_form f e in
        ap (λ z. one_kind card_kind z) (term_kind a inner false p.0 w.0 p.1) ∙ card_form_kind p.0 f p.2
    term_kind (tree.Listed ts) inner r f w e = listed_kind ts inner f w.0 e
    term_kind (tree.Elems set) inner r f w e = made_if_kind (nat_lt set (length sizes)) (Elements set) f (kind.SetOf (base.Elem set)) refl e
    term_kind tree.Truths inner r f w e = made TruthSet f (kind.SetOf base.Truth) refl e
    term_kind (tree.Test g) inner r f w e = ap (λ b. if b then Some kind.Truth else None) (formula_fits g inner w) ∙ made Truth f kind.Truth refl e

    pub listed_kind : (ts : TermTrees) (inner : Scope) (f : Form) → TypedTerms sizes scope taken inner ts → form_of_listed sizes scope inner ts ≡ Some f →
        kind_of_all sizes (kinds_in scope) (kinds_under inner) ts ≡ Some (kind_of_form f)
    listed_kind tree.End inner f w e = made Empty f kind.EmptySet refl e
    listed_kind (tree.More t ts) inner f w e =
        let p = both_forms (then_form (form_of sizes scope inner t) single) (form_of_listed sizes scope inner ts) joined_form f e in
        let q = then_some (form_of sizes scope inner t) single p.0 p.2 in
        two_kinds more_kind _ _ (kind_of_form q.0) (kind_of_form p.1) (kind_of_form f)
        (term_kind t inner false q.0 w.0 q.1) (listed_kind ts inner p.1 w.1 p.3) (single_kind q.0 p.0 p.1 f q.2 p.4)

    pub formula_fits : (f : FormulaTree) (inner : Scope) → TypedFormula sizes scope taken inner f → fits sizes (kinds_in scope) (kinds_under inner) f ≡ true
    formula_fits tree.True inner w = refl
    formula_fits tree.False inner w = refl
    formula_fits (tree.Rel s a b) inner w =
        let p = some_and (form_of sizes scope inner a) _ w.2 in
        let q = some_and (form_of sizes scope inner b) _ p.2 in
        ap (λ z. both_fit (rel_kinds s) z (kind_of sizes (kinds_in scope) (kinds_under inner) b)) (term_kind a inner false p.0 w.0 p.1)
        ∙ ap (λ z. both_fit (rel_kinds s) (Some (kind_of_form p.0)) z) (term_kind b inner (is_membership s) q.0 w.1 q.1) ∙ related_kinds s p.0 q.0 q.2
    formula_fits (tree.Not f) inner w = formula_fits f inner w
    formula_fits (tree.And f g) inner w = and_from _ _ (formula_fits f inner w.0) (formula_fits g inner w.1)
    formula_fits (tree.Or f g) inner w = and_from _ _ (formula_fits f inner w.0) (formula_fits g inner w.1)
    formula_fits (tree.Implies f g) inner w = and_from _ _ (formula_fits f inner w.0) (formula_fits g inner w.1)
    formula_fits (tree.Iff f g) inner w = and_from _ _ (formula_fits f inner w.0) (formula_fits g inner w.1)
    formula_fits (tree.Every x k f) inner w =
        subst (λ z. fits sizes (kinds_in scope) (z ∷ kinds_under inner) f ≡ true) (domain_kind w.0 ∙ w.1.1) (formula_fits f ((x, form_of_domain w.0) ∷ inner) w.1.5)
    formula_fits (tree.Exist x k f) inner w =
        subst (λ z. fits sizes (kinds_in scope) (z ∷ kinds_under inner) f ≡ true) (domain_kind w.0 ∙ w.1.1) (formula_fits f ((x, form_of_domain w.0) ∷ inner) w.1.5)
