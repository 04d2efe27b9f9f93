-- Being the same is an equivalence: trees are the same where they are equal once the written names of bound variables are taken out.
use Rattle.std.proofs.Common.{◌≡◌, ◌==◌, Bool, true, false, ◌&&◌, [], refl, sym, ◌∙◌, ap, ap₂, subst}
use Rattle.std.proofs.lemmas.Bool.{eqb-true, eq-eqb, and_parts, and_from}
use Rattle.std.proofs.lemmas.Bool.Decides.{Decides-int_eq}
use Rattle.cb_term.specs.declared.name.Name.{Name}
use Rattle.cb_term.specs.declared.kind.Kind.{Kind}
use Rattle.cb_term.specs.declared.kind.Kind.TheVariants as kind
use Rattle.cb_term.specs.declared.kind.Base.{Base}
use Rattle.cb_term.specs.declared.kind.Base.TheVariants as base
use Rattle.cb_term.specs.declared.sign.TermSign.{TermSign}
use Rattle.cb_term.specs.declared.sign.TermSign.TheVariants.{Add, Minus, Mul, Div, Mod, Range, Union, Inter}
use Rattle.cb_term.specs.declared.sign.RelSign.{RelSign}
use Rattle.cb_term.specs.declared.sign.RelSign.TheVariants.{Equal, Less, AtMost, Member, Subset}
use Rattle.cb_term.specs.Tree.{TermTree, Var, Bound, Num, Truth, Elem, Bin, Neg, Card, Listed, Elems, Truths, Test, TermTrees, End, More, FormulaTree, True, False, Rel, Not, And, Or, Implies, Iff, Every, Exist}
use Rattle.cb_term.specs.Names.{same_name}
use Rattle.cb_term.specs.Kinds.{same_base, same_kind}
use Rattle.cb_term.specs.Signs.{same_sign, same_rel}
use Rattle.cb_term.specs.Values.{same_truth}
use Rattle.cb_term.specs.Same.{same_term, same_terms, same}
use Rattle.cb_term.proofs.ValueLemmas.{same_name_tells, same_name_self, same_truth_tells, same_sign_tells, same_rel_tells, same_kind_tells}

blank : Name
blank = record { text = []; number = 0 }

-- the trees without the written names of bound variables
abbrev mutual
  bare_term : TermTree → TermTree
  bare_term (Var x) = Var x
  bare_term (Bound j) = Bound j
  bare_term (Num n) = Num n
  bare_term (Truth b) = Truth b
  bare_term (Elem set i) = Elem set i
  bare_term (Bin s a b) = Bin s (bare_term a) (bare_term b)
  bare_term (Neg a) = Neg (bare_term a)
  bare_term (Card a) = Card (bare_term a)
  bare_term (Listed ts) = Listed (bare_terms ts)
  bare_term (Elems set) = Elems set
  bare_term Truths = Truths
  bare_term (Test f) = Test (bare f)

  bare_terms : TermTrees → TermTrees
  bare_terms End = End
  bare_terms (More t ts) = More (bare_term t) (bare_terms ts)

  bare : FormulaTree → FormulaTree
  bare True = True
  bare False = False
  bare (Rel s a b) = Rel s (bare_term a) (bare_term b)
  bare (Not f) = Not (bare f)
  bare (And f g) = And (bare f) (bare g)
  bare (Or f g) = Or (bare f) (bare g)
  bare (Implies f g) = Implies (bare f) (bare g)
  bare (Iff f g) = Iff (bare f) (bare g)
  bare (Every x k f) = Every blank k (bare f)
  bare (Exist x k f) = Exist blank k (bare f)

mutual
  same_bare_term : (t u : TermTree) → same_term t u ≡ true → bare_term t ≡ bare_term u
  same_bare_term (Var x) (Var y) s = ap Var (same_name_tells x y s)
  same_bare_term (Bound j) (Bound k) s = ap Bound (eqb-true j k s)
  same_bare_term (Num m) (Num n) s = ap Num ((Decides-int_eq m n).0 s)
  same_bare_term (Truth b) (Truth c) s = ap Truth (same_truth_tells b c s)
  same_bare_term (Elem set i) (Elem set' i') s =
      let p = and_parts (set == set') (i == i') s in ap₂ Elem (eqb-true set set' p.0) (eqb-true i i' p.1)
  same_bare_term (Bin g a b) (Bin g' a' b') s =
      let p = and_parts (same_sign g g') (same_term a a' && same_term b b') s in
      let q = and_parts (same_term a a') (same_term b b') p.1 in
      rw (same_sign_tells g g' p.0, same_bare_term a a' q.0, same_bare_term b b' q.1) refl
  same_bare_term (Neg a) (Neg a') s = ap Neg (same_bare_term a a' s)
  same_bare_term (Card a) (Card a') s = ap Card (same_bare_term a a' s)
  same_bare_term (Listed ts) (Listed us) s = ap Listed (same_bare_terms ts us s)
  same_bare_term (Elems set) (Elems set') s = ap Elems (eqb-true set set' s)
  same_bare_term Truths Truths s = refl
  same_bare_term (Test f) (Test g) s = ap Test (same_bare f g s)
  same_bare_term t u s = cc

  same_bare_terms : (ts us : TermTrees) → same_terms ts us ≡ true → bare_terms ts ≡ bare_terms us
  same_bare_terms End End s = refl
  same_bare_terms (More t ts) (More u us) s =
      let p = and_parts (same_term t u) (same_terms ts us) s in ap₂ More (same_bare_term t u p.0) (same_bare_terms ts us p.1)
  same_bare_terms ts us s = cc

  same_bare : (f g : FormulaTree) → same f g ≡ true → bare f ≡ bare g
  same_bare True True s = refl
  same_bare False False s = refl
  same_bare (Rel r a b) (Rel r' a' b') s =
      let p = and_parts (same_rel r r') (same_term a a' && same_term b b') s in
      let q = and_parts (same_term a a') (same_term b b') p.1 in
      rw (same_rel_tells r r' p.0, same_bare_term a a' q.0, same_bare_term b b' q.1) refl
  same_bare (Not f) (Not f') s = ap Not (same_bare f f' s)
  same_bare (And f g) (And f' g') s = let p = and_parts (same f f') (same g g') s in ap₂ And (same_bare f f' p.0) (same_bare g g' p.1)
  same_bare (Or f g) (Or f' g') s = let p = and_parts (same f f') (same g g') s in ap₂ Or (same_bare f f' p.0) (same_bare g g' p.1)
  same_bare (Implies f g) (Implies f' g') s = let p = and_parts (same f f') (same g g') s in ap₂ Implies (same_bare f f' p.0) (same_bare g g' p.1)
  same_bare (Iff f g) (Iff f' g') s = let p = and_parts (same f f') (same g g') s in ap₂ Iff (same_bare f f' p.0) (same_bare g g' p.1)
  same_bare (Every x k f) (Every y k' f') s =
      let p = and_parts (same_kind k k') (same f f') s in ap₂ (Every blank) (same_kind_tells k k' p.0) (same_bare f f' p.1)
  same_bare (Exist x k f) (Exist y k' f') s =
      let p = and_parts (same_kind k k') (same f f') s in ap₂ (Exist blank) (same_kind_tells k k' p.0) (same_bare f f' p.1)
  same_bare f g s = cc

same_truth_self : (b : Bool) → same_truth b b ≡ true
same_truth_self true = refl
same_truth_self false = refl

same_sign_self : (s : TermSign) → same_sign s s ≡ true
same_sign_self Add = refl
same_sign_self Minus = refl
same_sign_self Mul = refl
same_sign_self Div = refl
same_sign_self Mod = refl
same_sign_self Range = refl
same_sign_self Union = refl
same_sign_self Inter = refl

same_rel_self : (s : RelSign) → same_rel s s ≡ true
same_rel_self Equal = refl
same_rel_self Less = refl
same_rel_self AtMost = refl
same_rel_self Member = refl
same_rel_self Subset = refl

same_base_self : (b : Base) → same_base b b ≡ true
same_base_self base.Integer = refl
same_base_self base.Truth = refl
same_base_self (base.Elem j) = eq-eqb j j refl

same_kind_self : (k : Kind) → same_kind k k ≡ true
same_kind_self kind.Integer = refl
same_kind_self kind.Truth = refl
same_kind_self (kind.Elem j) = eq-eqb j j refl
same_kind_self (kind.SetOf b) = same_base_self b
same_kind_self kind.EmptySet = refl

mutual
  bare_same_term : (t u : TermTree) → bare_term t ≡ bare_term u → same_term t u ≡ true
  bare_same_term (Var x) (Var y) e = let h : x ≡ y = cc (e) in subst (λ z. same_name x z ≡ true) h (same_name_self x)
  bare_same_term (Bound j) (Bound k) e = eq-eqb j k (cc (e))
  bare_same_term (Num m) (Num n) e = (Decides-int_eq m n).1 (cc (e))
  bare_same_term (Truth b) (Truth c) e = let h : b ≡ c = cc (e) in subst (λ z. same_truth b z ≡ true) h (same_truth_self b)
  bare_same_term (Elem set i) (Elem set' i') e = and_from _ _ (eq-eqb set set' (cc (e))) (eq-eqb i i' (cc (e)))
  bare_same_term (Bin g a b) (Bin g' a' b') e =
      let h : g ≡ g' = cc (e) in
      and_from _ _ (subst (λ z. same_sign g z ≡ true) h (same_sign_self g)) (and_from _ _ (bare_same_term a a' (cc (e))) (bare_same_term b b' (cc (e))))
  bare_same_term (Neg a) (Neg a') e = bare_same_term a a' (cc (e))
  bare_same_term (Card a) (Card a') e = bare_same_term a a' (cc (e))
  bare_same_term (Listed ts) (Listed us) e = bare_same_terms ts us (cc (e))
  bare_same_term (Elems set) (Elems set') e = eq-eqb set set' (cc (e))
  bare_same_term Truths Truths e = refl
  bare_same_term (Test f) (Test g) e = bare_same f g (cc (e))
  bare_same_term t u e = cc

  bare_same_terms : (ts us : TermTrees) → bare_terms ts ≡ bare_terms us → same_terms ts us ≡ true
  bare_same_terms End End e = refl
  bare_same_terms (More t ts) (More u us) e = and_from _ _ (bare_same_term t u (cc (e))) (bare_same_terms ts us (cc (e)))
  bare_same_terms ts us e = cc

  bare_same : (f g : FormulaTree) → bare f ≡ bare g → same f g ≡ true
  bare_same True True e = refl
  bare_same False False e = refl
  bare_same (Rel r a b) (Rel r' a' b') e =
      let h : r ≡ r' = cc (e) in
      and_from _ _ (subst (λ z. same_rel r z ≡ true) h (same_rel_self r)) (and_from _ _ (bare_same_term a a' (cc (e))) (bare_same_term b b' (cc (e))))
  bare_same (Not f) (Not f') e = bare_same f f' (cc (e))
  bare_same (And f g) (And f' g') e = and_from _ _ (bare_same f f' (cc (e))) (bare_same g g' (cc (e)))
  bare_same (Or f g) (Or f' g') e = and_from _ _ (bare_same f f' (cc (e))) (bare_same g g' (cc (e)))
  bare_same (Implies f g) (Implies f' g') e = and_from _ _ (bare_same f f' (cc (e))) (bare_same g g' (cc (e)))
  bare_same (Iff f g) (Iff f' g') e = and_from _ _ (bare_same f f' (cc (e))) (bare_same g g' (cc (e)))
  bare_same (Every x k f) (Every y k' f') e =
      let h : k ≡ k' = cc (e) in and_from _ _ (subst (λ z. same_kind k z ≡ true) h (same_kind_self k)) (bare_same f f' (cc (e)))
  bare_same (Exist x k f) (Exist y k' f') e =
      let h : k ≡ k' = cc (e) in and_from _ _ (subst (λ z. same_kind k z ≡ true) h (same_kind_self k)) (bare_same f f' (cc (e)))
  bare_same f g e = cc

pub same_self : (t : TermTree) → same_term t t ≡ true
same_self t = bare_same_term t t refl

-- two terms that are the same as a third are the same
pub same_both : (t u w : TermTree) → same_term t w ≡ true → same_term u w ≡ true → same_term t u ≡ true
same_both t u w e f = bare_same_term t u (same_bare_term t w e ∙ sym (same_bare_term u w f))

pub same_then : (t u w : TermTree) → same_term t u ≡ true → same_term u w ≡ true → same_term t w ≡ true
same_then t u w e f = bare_same_term t w (same_bare_term t u e ∙ same_bare_term u w f)

-- what is the same as one of two terms that are the same is the same as the other
pub same_alike : (t u w : TermTree) → same_term t u ≡ true → same_term t w ≡ same_term u w
same_alike t u w e = by_tests (same_term t w) (same_term u w) refl refl
  where
    by_tests : (b c : Bool) → same_term t w ≡ b → same_term u w ≡ c → b ≡ c
    by_tests true true h k = refl
    by_tests false false h k = refl
    by_tests false true h k = sym h ∙ same_then t u w e k
    by_tests true false h k = sym (sym k ∙ same_then u t w (same_both u t u (same_self u) e) h)
