-- The results of operations have the forms that are judged.
use Rattle.std.proofs.Common.{◌≡◌, ℕ, ◌⊎◌, inl, inr, ◌≤◌, ◌^◌, ◌==◌, ℤ, int_lt, Bool, true, false, List, [], ◌∷◌, Option, Some, None, refl, sym, ap, ◌∙◌, subst, true≢false, if◌then◌else◌, arith, bytes_eq, eq-eqb, IsSomeAnd}
use Rattle.std.specs.Int.{int_min, int_max}
use Rattle.std.proofs.lemmas.Int.{ints, clamps}
use Rattle.std.proofs.lemmas.Bool.{eqb-true}
use Rattle.std.proofs.lemmas.Option.{same_Some}
use Rattle.cb_lex.specs.declared.raw.name.RawName.{RawName}
use Rattle.cb_lex.specs.RawSubstTree.{RawSubstTree, RawSubsts}
use Rattle.cb_lex.specs.RawSubstTree as raw
use Rattle.cb_lex.specs.RawTermTree.{RawTermTree}
use Rattle.cb_term.specs.declared.kind.Base.TheVariants as base
use Rattle.cb_term.specs.declared.kind.Domain.{Domain}
use Rattle.cb_term.specs.declared.kind.Domain.TheVariants as domain
use Rattle.cb_term.specs.declared.kind.Kind.{Kind}
use Rattle.cb_term.specs.declared.kind.Kind.TheVariants as kind
use Rattle.cb_term.specs.declared.name.Name.{Name}
use Rattle.cb_term.specs.Names.{same_name}
use Rattle.cb_term.specs.Tree.{TermTree, Var}
use Rattle.cb_spec.specs.Forms.{Form, Number, Truth, Element, Numbers, TruthSet, Elements, Empty, form_of_domain, is_of_kind, hull}
use Rattle.cb_spec.specs.TypedSubsts.{TypedSubst, TypedSides, kind_of_target, either_form, either, assigned_form, assigned_in_one, result_form}
use Rattle.cb_spec.specs.TypedTerms.{Scope, IsDomain, TypedAs}
use Rattle.cb_spec.specs.TypedTerms as typed
use Rattle.cb_forms.specs.Find.{found}
use Rattle.cb_forms.specs.Kinds.{form_of}
use Rattle.cb_judge.specs.declared.domain.Choice.{Choice}
use Rattle.cb_judge.specs.declared.names.View.{View}
use Rattle.cb_judge.specs.Meanings.{Names}
use Rattle.cb_judge.specs.Choices.{typing_in, domain_in, choice_faults}
use Rattle.cb_judge.specs.Judged.{form_in}
use Rattle.cb_judge.specs.Substs.{Results, results_after, subst_fault, sides_fault, chosen_form, within}
use Rattle.cb_normal.specs.Normal.{written, domain_or, term_in}
use Rattle.cb_normal.specs.NormalSubsts.{any, among, subst_in, substs_in}
use Rattle.cb_typing.specs.Depths.{subst_depth, sides_depth}
use Rattle.cb_typing.specs.Reflects.{IsProper, Reflects}
use Rattle.cb_typing.proofs.Clean.{Clean}
use Rattle.cb_typing.proofs.Lookups.{bytes_tell}
use Rattle.cb_typing.proofs.Substs.{put_own, put_other}
use Rattle.cb_typing.proofs.Terms.{Good, term_good, chosen}
use Rattle.cb_typing.proofs.Under.{same_written, within_reflects}
use Rattle.cb_text_laws.specs.Signatures.{Assigned, form_after, assigned_next, assigned_after, assigned_after_sides, known_of}

-- ---- hulls

hull_both : (a b c d : ℤ) → int_lt b a ≡ false → int_lt d c ≡ false → hull a b c d ≡ Numbers (int_min a c) (int_max b d)
hull_both a b c d e f = rw (e, f) refl

hull_first : (a b c d : ℤ) → int_lt d c ≡ true → int_lt b a ≡ false → hull a b c d ≡ Numbers a b
hull_first a b c d f e = rw (e, f) refl

hull_second : (a b c d : ℤ) → int_lt b a ≡ true → hull a b c d ≡ Numbers c d
hull_second a b c d e = rw e refl

-- what a hull is, as a set of numbers
hull_of : Form → ℤ → ℤ → Form
hull_of (Numbers a b) c d = hull a b c d
hull_of f c d = f

hull_onto : ℤ → ℤ → Form → Form
hull_onto a b (Numbers c d) = hull a b c d
hull_onto a b f = f

full_hull : (a b c d : ℤ) → int_lt b a ≡ false → int_lt d c ≡ false → int_lt (int_max b d) (int_min a c) ≡ false
full_hull a b c d e f = not_lt (int_lt (int_max b d) (int_min a c)) refl
  where
    not_lt : (t : Bool) → int_lt (int_max b d) (int_min a c) ≡ t → t ≡ false
    not_lt true q = absurd (omega (arith, ints, clamps, e, f, q))
    not_lt false q = refl

hull_then : (a b c d e f : ℤ) → hull_of (hull a b c d) e f ≡ hull_onto a b (hull c d e f)
unfolding hull_of hull_onto
hull_then a b c d e f = by (int_lt b a) refl (int_lt d c) refl (int_lt f e) refl
  where
    by : (p : Bool) → int_lt b a ≡ p → (q : Bool) → int_lt d c ≡ q → (r : Bool) → int_lt f e ≡ r → hull_of (hull a b c d) e f ≡ hull_onto a b (hull c d e f)
    by true p true q r s = rw (hull_second a b c d p, hull_second c d e f q, hull_second a b e f p) refl
    by true p false q true s = rw (hull_second a b c d p, hull_first c d e f s q, hull_second a b c d p) refl
    by true p false q false s = rw (hull_second a b c d p, hull_both c d e f q s, hull_second a b (int_min c e) (int_max d f) p) refl
    by false p true q r s = rw (hull_first a b c d q p, hull_second c d e f q) refl
    by false p false q true s = rw (hull_both a b c d p q, hull_first c d e f s q, hull_first (int_min a c) (int_max b d) e f s (full_hull a b c d p q), hull_both a b c d p q) refl
    by false p false q false s =
        let low : int_min (int_min a c) e ≡ int_min a (int_min c e) = omega (arith, ints, clamps) in
        let high : int_max (int_max b d) f ≡ int_max b (int_max d f) = omega (arith, ints, clamps) in
        rw (hull_both a b c d p q, hull_both c d e f q s, hull_both (int_min a c) (int_max b d) e f (full_hull a b c d p q) s, hull_both a b (int_min c e) (int_max d f) p (full_hull c d e f q s), low, high) refl

hull_numbers : (a b c d : ℤ) → (p : ℤ) × (q : ℤ) × (hull a b c d ≡ Numbers p q)
hull_numbers a b c d = by (int_lt b a) (int_lt d c)
  where
    by : (s u : Bool) → (p : ℤ) × (q : ℤ) × ((if s then Numbers c d else (if u then Numbers a b else Numbers (int_min a c) (int_max b d))) ≡ Numbers p q)
    by true u = (c, d, refl)
    by false true = (a, b, refl)
    by false false = (int_min a c, int_max b d, refl)

-- ---- one or the other, of one kind

abbrev pub Is : Kind → Form → Type 0
Is k f = (is_of_kind f k ≡ true) × IsProper f

numbers_is : (a b c d : ℤ) → Is (kind.SetOf base.Integer) (hull a b c d)
numbers_is a b c d = let h = hull_numbers a b c d in subst (Is (kind.SetOf base.Integer)) (sym h.2) (refl, tt)

elements_are : (j k n : ℕ) → (j == n) ≡ true → (k == n) ≡ true → k ≡ j
elements_are j k n e h = eqb-true k n h ∙ sym (eqb-true j n e)

either_same : (j : ℕ) → either_form (Elements j) (Elements j) ≡ Elements j
either_same j = rw (eq-eqb j j refl) refl

integer_is : (a b : Form) → Is kind.Integer a → Is kind.Integer b → Is kind.Integer (either_form a b)
integer_is (Number a b) (Number c d) p q = (refl, omega (arith, ints, clamps, p.1, q.1))
integer_is (Number a b) f p q = absurd (true≢false (sym q.0))
integer_is f g p q = absurd (true≢false (sym p.0))

truth_is : (a b : Form) → Is kind.Truth a → Is kind.Truth b → Is kind.Truth (either_form a b)
truth_is Truth Truth p q = (refl, tt)
truth_is Truth f p q = absurd (true≢false (sym q.0))
truth_is f g p q = absurd (true≢false (sym p.0))

element_is : (n : ℕ) (a b : Form) → Is (kind.Elem n) a → Is (kind.Elem n) b → Is (kind.Elem n) (either_form a b)
element_is n (Element j) (Element k) p q = p
element_is n (Element j) f p q = absurd (true≢false (sym q.0))
element_is n f g p q = absurd (true≢false (sym p.0))

ints_are : (a b : Form) → Is (kind.SetOf base.Integer) a → Is (kind.SetOf base.Integer) b → Is (kind.SetOf base.Integer) (either_form a b)
ints_are (Numbers a b) (Numbers c d) p q = numbers_is a b c d
ints_are (Numbers a b) Empty p q = p
ints_are Empty (Numbers c d) p q = q
ints_are Empty Empty p q = p
ints_are (Numbers a b) f p q = absurd (true≢false (sym q.0))
ints_are Empty f p q = absurd (true≢false (sym q.0))
ints_are f g p q = absurd (true≢false (sym p.0))

truths_are : (a b : Form) → Is (kind.SetOf base.Truth) a → Is (kind.SetOf base.Truth) b → Is (kind.SetOf base.Truth) (either_form a b)
truths_are TruthSet TruthSet p q = p
truths_are TruthSet Empty p q = p
truths_are Empty TruthSet p q = q
truths_are Empty Empty p q = p
truths_are TruthSet f p q = absurd (true≢false (sym q.0))
truths_are Empty f p q = absurd (true≢false (sym q.0))
truths_are f g p q = absurd (true≢false (sym p.0))

elems_are : (n : ℕ) (a b : Form) → Is (kind.SetOf (base.Elem n)) a → Is (kind.SetOf (base.Elem n)) b → Is (kind.SetOf (base.Elem n)) (either_form a b)
elems_are n (Elements j) (Elements k) p q =
    subst (λ m. Is (kind.SetOf (base.Elem n)) (either_form (Elements j) (Elements m))) (sym (elements_are j k n p.0 q.0)) (subst (Is (kind.SetOf (base.Elem n))) (sym (either_same j)) p)
elems_are n (Elements j) Empty p q = p
elems_are n Empty (Elements k) p q = q
elems_are n Empty Empty p q = p
elems_are n (Elements j) f p q = absurd (true≢false (sym q.0))
elems_are n Empty f p q = absurd (true≢false (sym q.0))
elems_are n f g p q = absurd (true≢false (sym p.0))

empties_are : (a b : Form) → Is kind.EmptySet a → Is kind.EmptySet b → Is kind.EmptySet (either_form a b)
empties_are Empty Empty p q = p
empties_are Empty f p q = absurd (true≢false (sym q.0))
empties_are f g p q = absurd (true≢false (sym p.0))

either_is : (k : Kind) (a b : Form) → Is k a → Is k b → Is k (either_form a b)
either_is kind.Integer a b p q = integer_is a b p q
either_is kind.Truth a b p q = truth_is a b p q
either_is (kind.Elem n) a b p q = element_is n a b p q
either_is (kind.SetOf base.Integer) a b p q = ints_are a b p q
either_is (kind.SetOf base.Truth) a b p q = truths_are a b p q
either_is (kind.SetOf (base.Elem n)) a b p q = elems_are n a b p q
either_is kind.EmptySet a b p q = empties_are a b p q

-- ---- three of one kind

integer_then : (a b c : Form) → Is kind.Integer a → Is kind.Integer b → Is kind.Integer c → either_form (either_form a b) c ≡ either_form a (either_form b c)
integer_then (Number a b) (Number c d) (Number e f) p q r =
    let low : int_min (int_min a c) e ≡ int_min a (int_min c e) = omega (arith, ints, clamps) in
    let high : int_max (int_max b d) f ≡ int_max b (int_max d f) = omega (arith, ints, clamps) in
    rw (low, high) refl
integer_then (Number a b) (Number c d) g p q r = absurd (true≢false (sym r.0))
integer_then (Number a b) f g p q r = absurd (true≢false (sym q.0))
integer_then f g h p q r = absurd (true≢false (sym p.0))

truth_then : (a b c : Form) → Is kind.Truth a → Is kind.Truth b → Is kind.Truth c → either_form (either_form a b) c ≡ either_form a (either_form b c)
truth_then Truth Truth Truth p q r = refl
truth_then Truth Truth g p q r = absurd (true≢false (sym r.0))
truth_then Truth f g p q r = absurd (true≢false (sym q.0))
truth_then f g h p q r = absurd (true≢false (sym p.0))

element_then : (n : ℕ) (a b c : Form) → Is (kind.Elem n) a → Is (kind.Elem n) b → Is (kind.Elem n) c → either_form (either_form a b) c ≡ either_form a (either_form b c)
element_then n (Element i) (Element j) (Element k) p q r = refl
element_then n (Element i) (Element j) g p q r = absurd (true≢false (sym r.0))
element_then n (Element i) f g p q r = absurd (true≢false (sym q.0))
element_then n f g h p q r = absurd (true≢false (sym p.0))

numbers_then : (a b c d e f : ℤ) → either_form (hull a b c d) (Numbers e f) ≡ either_form (Numbers a b) (hull c d e f)
unfolding hull_of hull_onto
numbers_then a b c d e f =
    let h = hull_numbers a b c d in
    let k = hull_numbers c d e f in
    ap (λ z. either_form z (Numbers e f)) h.2 ∙ ap (λ z. hull_of z e f) (sym h.2) ∙ hull_then a b c d e f ∙ ap (hull_onto a b) k.2 ∙ ap (either_form (Numbers a b)) (sym k.2)

hull_empty : (a b c d : ℤ) → either_form (hull a b c d) Empty ≡ hull a b c d
hull_empty a b c d = let h = hull_numbers a b c d in ap (λ z. either_form z Empty) h.2 ∙ sym h.2

empty_hull : (a b c d : ℤ) → either_form Empty (hull a b c d) ≡ hull a b c d
empty_hull a b c d = let h = hull_numbers a b c d in ap (either_form Empty) h.2 ∙ sym h.2

ints_then : (a b c : Form) → Is (kind.SetOf base.Integer) a → Is (kind.SetOf base.Integer) b → Is (kind.SetOf base.Integer) c → either_form (either_form a b) c ≡ either_form a (either_form b c)
ints_then (Numbers a b) (Numbers c d) (Numbers e f) p q r = numbers_then a b c d e f
ints_then (Numbers a b) (Numbers c d) Empty p q r = hull_empty a b c d
ints_then (Numbers a b) Empty (Numbers e f) p q r = refl
ints_then (Numbers a b) Empty Empty p q r = refl
ints_then Empty (Numbers c d) (Numbers e f) p q r = sym (empty_hull c d e f)
ints_then Empty (Numbers c d) Empty p q r = refl
ints_then Empty Empty (Numbers e f) p q r = refl
ints_then Empty Empty Empty p q r = refl
ints_then (Numbers a b) (Numbers c d) g p q r = absurd (true≢false (sym r.0))
ints_then (Numbers a b) Empty g p q r = absurd (true≢false (sym r.0))
ints_then Empty (Numbers c d) g p q r = absurd (true≢false (sym r.0))
ints_then Empty Empty g p q r = absurd (true≢false (sym r.0))
ints_then (Numbers a b) f g p q r = absurd (true≢false (sym q.0))
ints_then Empty f g p q r = absurd (true≢false (sym q.0))
ints_then f g h p q r = absurd (true≢false (sym p.0))

truths_then : (a b c : Form) → Is (kind.SetOf base.Truth) a → Is (kind.SetOf base.Truth) b → Is (kind.SetOf base.Truth) c → either_form (either_form a b) c ≡ either_form a (either_form b c)
truths_then TruthSet TruthSet TruthSet p q r = refl
truths_then TruthSet TruthSet Empty p q r = refl
truths_then TruthSet Empty TruthSet p q r = refl
truths_then TruthSet Empty Empty p q r = refl
truths_then Empty TruthSet TruthSet p q r = refl
truths_then Empty TruthSet Empty p q r = refl
truths_then Empty Empty TruthSet p q r = refl
truths_then Empty Empty Empty p q r = refl
truths_then TruthSet TruthSet g p q r = absurd (true≢false (sym r.0))
truths_then TruthSet Empty g p q r = absurd (true≢false (sym r.0))
truths_then Empty TruthSet g p q r = absurd (true≢false (sym r.0))
truths_then Empty Empty g p q r = absurd (true≢false (sym r.0))
truths_then TruthSet f g p q r = absurd (true≢false (sym q.0))
truths_then Empty f g p q r = absurd (true≢false (sym q.0))
truths_then f g h p q r = absurd (true≢false (sym p.0))

-- a set of the kind is that of the elements, or empty
elems_cases : (n : ℕ) (a : Form) → Is (kind.SetOf (base.Elem n)) a → (a ≡ Elements n) ⊎ (a ≡ Empty)
elems_cases n (Elements j) p = inl (ap Elements (eqb-true j n p.0))
elems_cases n Empty p = inr refl
elems_cases n f p = absurd (true≢false (sym p.0))

elems_then : (n : ℕ) (a b c : Form) → Is (kind.SetOf (base.Elem n)) a → Is (kind.SetOf (base.Elem n)) b → Is (kind.SetOf (base.Elem n)) c → either_form (either_form a b) c ≡ either_form a (either_form b c)
elems_then n a b c p q r = by (elems_cases n a p) (elems_cases n b q) (elems_cases n c r)
  where
    by : (a ≡ Elements n) ⊎ (a ≡ Empty) → (b ≡ Elements n) ⊎ (b ≡ Empty) → (c ≡ Elements n) ⊎ (c ≡ Empty) → either_form (either_form a b) c ≡ either_form a (either_form b c)
    by (inl p) (inl q) (inl r) = rw (p, q, r) (ap (λ z. either_form z (Elements n)) (either_same n) ∙ ap (either_form (Elements n)) (sym (either_same n)))
    by (inl p) (inl q) (inr r) = rw (p, q, r) (ap (λ z. either_form z Empty) (either_same n) ∙ sym (either_same n))
    by (inl p) (inr q) (inl r) = rw (p, q, r) refl
    by (inl p) (inr q) (inr r) = rw (p, q, r) refl
    by (inr p) (inl q) (inl r) = rw (p, q, r) (either_same n ∙ sym (ap (either_form Empty) (either_same n)))
    by (inr p) (inl q) (inr r) = rw (p, q, r) refl
    by (inr p) (inr q) (inl r) = rw (p, q, r) refl
    by (inr p) (inr q) (inr r) = rw (p, q, r) refl

empties_then : (a b c : Form) → Is kind.EmptySet a → Is kind.EmptySet b → Is kind.EmptySet c → either_form (either_form a b) c ≡ either_form a (either_form b c)
empties_then Empty Empty Empty p q r = refl
empties_then Empty Empty g p q r = absurd (true≢false (sym r.0))
empties_then Empty f g p q r = absurd (true≢false (sym q.0))
empties_then f g h p q r = absurd (true≢false (sym p.0))

three : (k : Kind) (a b c : Form) → Is k a → Is k b → Is k c → either_form (either_form a b) c ≡ either_form a (either_form b c)
three kind.Integer a b c p q r = integer_then a b c p q r
three kind.Truth a b c p q r = truth_then a b c p q r
three (kind.Elem n) a b c p q r = element_then n a b c p q r
three (kind.SetOf base.Integer) a b c p q r = ints_then a b c p q r
three (kind.SetOf base.Truth) a b c p q r = truths_then a b c p q r
three (kind.SetOf (base.Elem n)) a b c p q r = elems_then n a b c p q r
three kind.EmptySet a b c p q r = empties_then a b c p q r

abbrev pub AllIs : Kind → Option Form → Type 0
AllIs k o = (f : Form) → o ≡ Some f → Is k f

either_all : (k : Kind) (o p : Option Form) → AllIs k o → AllIs k p → AllIs k (either o p)
either_all k None p q r = r
either_all k (Some a) None q r = q
either_all k (Some a) (Some b) q r = λ f e. subst (Is k) (same_Some (either_form a b) f e) (either_is k a b (q a refl) (r b refl))

either_then : (k : Kind) (o p q : Option Form) → AllIs k o → AllIs k p → AllIs k q → either (either o p) q ≡ either o (either p q)
either_then k None p q a b c = refl
either_then k (Some f) None q a b c = refl
either_then k (Some f) (Some g) None a b c = refl
either_then k (Some f) (Some g) (Some h) a b c = ap Some (three k f g h (a f refl) (b g refl) (c h refl))

either_none : (o : Option Form) → either o None ≡ o
either_none None = refl
either_none (Some f) = refl

-- ---- the walk

assigned_is : (o : Option Form) (f : Form) → Some (form_after o f) ≡ either o (Some f)
assigned_is None f = refl
assigned_is (Some g) f = refl

proper_domain : (sizes : List ℕ) (d : Domain) → IsDomain sizes d → IsProper (form_of_domain d)
proper_domain sizes (domain.Range lo hi) w = w.0
proper_domain sizes domain.Truth w = tt
proper_domain sizes (domain.Elems set) w = tt
proper_domain sizes (domain.Subsets lo hi) w = tt
proper_domain sizes (domain.ElemSubsets set) w = tt

module _ (v : View) (sizes : List ℕ) (targets : List (Name × Kind)) (x : List ℕ) (k : Kind) (target : kind_of_target targets (written x) ≡ Some k) where
  pub record Formed (before after : Assigned) (o : Option Form) : Type 0 where
    pub at : found x after ≡ either (found x before) o
    pub all : AllIs k o

  formed_none : (given : Assigned) → Formed given given None
  formed_none given = record { at = sym (either_none (found x given)); all = λ f e. let no : ⊥ = cc in absurd no }

  formed_then : (a b c : Assigned) (o p : Option Form) → AllIs k (found x a) → Formed a b o → Formed b c p → Formed a c (either o p)
  formed_then a b c o p h q r = record {
    at = r.at ∙ ap (λ z. either z p) q.at ∙ either_then k (found x a) o p h q.all r.all;
    all = either_all k o p q.all r.all;
  }

  all_after : (a b : Assigned) (o : Option Form) → AllIs k (found x a) → Formed a b o → AllIs k (found x b)
  all_after a b o h q = subst (AllIs k) (sym q.at) (either_all k (found x a) o h q.all)

  -- what is assigned to the name is of its kind
  of_target : (y : List ℕ) (e : TermTree) (scope : Scope) (taken : List Name) (f : Form) → typed.form_of sizes scope [] e ≡ Some f → IsSomeAnd (kind_of_target targets (written y)) (λ k. TypedAs sizes scope taken k e) → x ≡ y → is_of_kind f k ≡ true
  of_target y e scope taken f q w j =
      let w' : IsSomeAnd (Some k) (λ k. TypedAs sizes scope taken k e) = subst (λ o. IsSomeAnd o (λ k. TypedAs sizes scope taken k e)) (ap (λ z. kind_of_target targets (written z)) (sym j) ∙ target) w in
      let u : IsSomeAnd (Some f) (λ f. is_of_kind f k ≡ true) = subst (λ o. IsSomeAnd o (λ f. is_of_kind f k ≡ true)) q w'.1 in
      u

  assign_formed : (given : Assigned) (y : RawName) (f : Form) → (x ≡ y.text → Is k f) → Formed given (assigned_next y.text (Some f) given) (if same_name (written x) (written y.text) then Some f else None)
  assign_formed given y f h =
      subst (λ b. Formed given (assigned_next y.text (Some f) given) (if b then Some f else None)) (sym (same_written x y.text)) (by (bytes_eq x y.text) refl)
    where
      by : (b : Bool) → bytes_eq x y.text ≡ b → Formed given (assigned_next y.text (Some f) given) (if b then Some f else None)
      by true q =
          let j : x ≡ y.text = bytes_tell x y.text q in
          record {
            at = ap (λ z. found z (assigned_next y.text (Some f) given)) j ∙ put_own y.text (form_after (found y.text given) f) given ∙ assigned_is (found y.text given) f ∙ ap (λ z. either (found z given) (Some f)) (sym j);
            all = λ g e. subst (Is k) (same_Some f g e) (h j);
          }
      by false q = record {
        at = put_other y.text x (form_after (found y.text given) f) given q ∙ sym (either_none (found x given));
        all = λ f e. let no : ⊥ = cc in absurd no;
      }

  term_formed : (given : Assigned) (ns : Names) (scope : Scope) (taken : List Name) (y : RawName) (t : RawTermTree) → Good v sizes scope taken [] false (form_in v ns t) (term_in v ns t) →
      IsSomeAnd (kind_of_target targets (written y.text)) (λ k. TypedAs sizes scope taken k (term_in v ns t)) →
      Formed given (assigned_next y.text (form_in v ns t) given) (if same_name (written x) (written y.text) then typed.form_of sizes scope [] (term_in v ns t) else None)
  term_formed given ns scope taken y t g w =
      subst (λ o. Formed given (assigned_next y.text (form_in v ns t) given) (if same_name (written x) (written y.text) then o else None)) (sym g.as_typed)
      (subst (λ o. Formed given (assigned_next y.text o given) (if same_name (written x) (written y.text) then Some g.form else None)) (sym g.as_judged)
      (assign_formed given y g.form (λ j. (of_target y.text (term_in v ns t) scope taken g.form g.as_typed w j, g.proper))))

  among_formed : (given : Assigned) (scope : Scope) (taken : List Name) (y : RawName) (o : Option Choice) → Clean (choice_faults o y.place) → TypedSubst sizes targets scope taken (among (written y.text) (domain_or o)) →
      Formed given (assigned_next y.text (chosen_form o) given) (assigned_form sizes (written x) scope (among (written y.text) (domain_or o)))
  among_formed given scope taken y None c w = absurd c.0
  among_formed given scope taken y (Some d) c w =
      assign_formed given y (form_of_domain d.domain) (λ j. (of_target y.text (Var any) ((any, form_of_domain d.domain) ∷ scope) (any ∷ taken) (form_of_domain d.domain) refl w.4 j, proper_domain sizes d.domain w.1))

  mutual
    pub formed : (s : RawSubstTree) (ns : Names) (scope : Scope) (taken : List Name) → Reflects v ns sizes scope taken [] → (given : Assigned) → AllIs k (found x given) → (rs : Results) → subst_depth s ≤ 2 ^ 32 → Clean (subst_fault v ns rs s) →
        TypedSubst sizes targets scope taken (subst_in v ns s) → Formed given (assigned_after v ns given s) (assigned_form sizes (written x) scope (subst_in v ns s))
    formed raw.Skip ns scope taken r given a rs l h w = formed_none given
    formed (raw.Assign y t) ns scope taken r given a rs l h w = term_formed given ns scope taken y t (term_good v sizes scope taken t ns [] r false (omega (arith, l)) h.0) w
    formed (raw.Among y d) ns scope taken r given a rs l h w = among_formed given scope taken y (domain_in v ns d) h.0.1 w
    formed (raw.If f s) ns scope taken r given a rs l h w =
        subst (λ o. Formed given (assigned_after v ns given s) o) (sym (either_none (assigned_form sizes (written x) scope (subst_in v ns s)))) (formed s ns scope taken r given a rs (omega (arith, l)) h.1 w.1)
    formed (raw.IfElse f s t) ns scope taken r given a rs l h w =
        let p = formed s ns scope taken r given a rs (omega (arith, l)) h.1.0 w.1 in
        let b = assigned_after v ns given s in
        let o = assigned_form sizes (written x) scope (subst_in v ns s) in
        let q = formed t ns scope taken r b (all_after given b o a p) (results_after v ns rs s) (omega (arith, l)) h.1.1 w.2 in
        formed_then given b (assigned_after v ns b t) o (assigned_form sizes (written x) scope (subst_in v ns t)) a p q
    formed (raw.Choice ss) ns scope taken r given a rs l h w = sides_formed ss ns scope taken r given a rs l h w
    formed (raw.Any z f s) ns scope taken r given a rs l h w =
        let c = chosen v sizes scope taken ns [] r z f h.0 in
        let o = typing_in v ns z.text f in
        let r' = subst (λ o. Reflects v (within z o ns) sizes ((written z.text, form_of_domain (domain_or o)) ∷ scope) (written z.text ∷ taken) []) (sym c.is)
        (within_reflects v ns sizes scope taken r z c.by c.new c.fits.2) in
        formed s (within z o ns) ((written z.text, form_of_domain (domain_or o)) ∷ scope) (written z.text ∷ taken) r' given a rs (omega (arith, l)) h.1.1 w.4
    formed (raw.Parallel s t) ns scope taken r given a rs l h w =
        let p = formed s ns scope taken r given a rs (omega (arith, l)) h.0 w.0 in
        let b = assigned_after v ns given s in
        let o = assigned_form sizes (written x) scope (subst_in v ns s) in
        let q = formed t ns scope taken r b (all_after given b o a p) (results_after v ns rs s) (omega (arith, l)) h.1 w.1 in
        formed_then given b (assigned_after v ns b t) o (assigned_form sizes (written x) scope (subst_in v ns t)) a p q

    sides_formed : (ss : RawSubsts) (ns : Names) (scope : Scope) (taken : List Name) → Reflects v ns sizes scope taken [] → (given : Assigned) → AllIs k (found x given) → (rs : Results) → sides_depth ss ≤ 2 ^ 32 → Clean (sides_fault v ns rs ss) →
        TypedSides sizes targets scope taken (substs_in v ns ss) → Formed given (assigned_after_sides v ns given ss) (assigned_in_one sizes (written x) scope (substs_in v ns ss))
    sides_formed raw.NoSide ns scope taken r given a rs l h w = formed_none given
    sides_formed (raw.Side s ss) ns scope taken r given a rs l h w =
        let p = formed s ns scope taken r given a rs (omega (arith, l)) h.0 w.0 in
        let b = assigned_after v ns given s in
        let o = assigned_form sizes (written x) scope (subst_in v ns s) in
        let q = sides_formed ss ns scope taken r b (all_after given b o a p) (results_after v ns rs s) (omega (arith, l)) h.1 w.1 in
        formed_then given b (assigned_after_sides v ns b ss) o (assigned_in_one sizes (written x) scope (substs_in v ns ss)) a p q

-- ---- results

pub known_is : (f : Form) → form_of (known_of f) ≡ f
known_is (Number lo hi) = refl
known_is Truth = refl
known_is (Element set) = refl
known_is (Numbers lo hi) = refl
known_is TruthSet = refl
known_is (Elements set) = refl
known_is Empty = refl

pub result_proper : (o : Option Form) → ((f : Form) → o ≡ Some f → IsProper f) → IsProper (result_form o)
result_proper None h = omega arith
result_proper (Some (Number lo hi)) h = h (Number lo hi) refl
result_proper (Some Truth) h = tt
result_proper (Some (Element set)) h = tt
result_proper (Some (Numbers lo hi)) h = tt
result_proper (Some TruthSet) h = tt
result_proper (Some (Elements set)) h = tt
result_proper (Some Empty) h = tt
