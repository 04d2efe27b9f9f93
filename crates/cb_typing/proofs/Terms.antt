-- Terms and formulas without a fault are typed in normal form.
use Rattle.std.proofs.Common.{◌≡◌, ℕ, ◌-◌, ◌<◌, ◌≤◌, ◌^◌, ◌==◌, nat_lt, ℤ, pos, neg_ℤ, ◌-ℤ◌, ◌≤ℤ◌, int_lt, Bool, true, false, not, ◌&&◌, ◌⊎◌, inl, inr, List, ◌∷◌, map, length, Option, Some, None, is_none, IsSomeAnd, refl, sym, ap, ◌∙◌, subst, true≢false, if◌then◌else◌, arith, eq-eqb}
use Rattle.std.specs.Int.{int_min, int_max}
use Rattle.std.specs.Ordering.{int_eq}
use Rattle.std.proofs.lemmas.Option.{same_Some, slice_get_within}
use Rattle.std.proofs.lemmas.List.{length-map}
use Rattle.std.proofs.lemmas.Bool.{ltb-false}
use Rattle.std.proofs.lemmas.Int.{ints}
use Rattle.cb_lex.specs.declared.token.Place.{Place}
use Rattle.cb_lex.specs.declared.raw.name.RawName.{RawName}
use Rattle.cb_lex.specs.declared.raw.sign.RawAtom.{RawAtom}
use Rattle.cb_lex.specs.declared.raw.sign.RawAtom.TheVariants as atom
use Rattle.cb_lex.specs.declared.raw.sign.RawOperator.{RawOperator}
use Rattle.cb_lex.specs.declared.raw.sign.RawOperator.TheVariants as operator
use Rattle.cb_lex.specs.declared.raw.sign.RawRelation.{RawRelation}
use Rattle.cb_lex.specs.declared.raw.sign.RawRelation.TheVariants as relation
use Rattle.cb_lex.specs.RawTermTree.{RawTermTree, RawTerms, RawFormulaTree}
use Rattle.cb_lex.specs.RawTermTree as raw
use Rattle.cb_term.specs.declared.name.Name.{Name}
use Rattle.cb_term.specs.declared.sign.RelSign.{RelSign}
use Rattle.cb_term.specs.declared.sign.RelSign.TheVariants.{Equal, Less, AtMost, Member, Subset}
use Rattle.cb_term.specs.Tree.{TermTree, Var, Bound, Num, Truth, Elem, Bin, Neg, Card, Listed, Elems, Truths, TermTrees, Rel}
use Rattle.cb_term.specs.Tree as tree
use Rattle.cb_term.specs.Values.{size_of_set}
use Rattle.cb_spec.specs.Domains.{kind_of_domain}
use Rattle.cb_spec.specs.Forms.{Form, form_of_domain, joined_form, is_some_form, may_relate, IsSmall}
use Rattle.cb_spec.specs.Forms as form
use Rattle.cb_spec.specs.Runs.{HasConjunct}
use Rattle.cb_spec.specs.Domains.{typing}
use Rattle.cb_spec.specs.TypedTerms.{Scope, IsDomain, IsChoosable, literal, form_of, form_of_listed, HasSmallForm, is_membership, is_free_range, Unless, TypedTerm, TypedTerms, TypedFormula}
use Rattle.cb_forms.specs.Faults.{fault_if}
use Rattle.cb_forms.specs.Find.{found, is_in}
use Rattle.cb_forms.specs.Kinds.{number, span_of, is_number, is_set, binary_form, with_item, suits, wrong, operand_fault, side_fault, divisor_fault, size_fault}
use Rattle.cb_forms.specs.Kinds as kinds
use Rattle.cb_forms.specs.Spans.{negated}
use Rattle.cb_judge.specs.declared.domain.Choice.{Choice}
use Rattle.cb_judge.specs.declared.names.Entry.{Entry}
use Rattle.cb_judge.specs.declared.names.Meaning.{Meaning}
use Rattle.cb_judge.specs.declared.names.Meaning.TheVariants as meaning
use Rattle.cb_judge.specs.declared.names.View.{View}
use Rattle.cb_judge.specs.Meanings.{Names, known_form, form_of_meaning, is_unformed, is_unknown}
use Rattle.cb_judge.specs.Choices.{maxint, typing_in, choice_faults}
use Rattle.cb_judge.specs.Judged.{place_of, literal_of, atom_form, is_up_to, size_unless, under, chosen_fault, form_in, listed_from, fault_in, fault_from, fault_of}
use Rattle.cb_judge.specs.Judged as judged
use Rattle.cb_normal.specs.Normal.{written, index_of, meaning_term, named, range, atom_term, sign_of, minus, related, domain_or, term_in, terms_in, formula_in}
use Rattle.cb_typing.specs.Depths.{term_depth, terms_depth, formula_depth}
use Rattle.cb_typing.specs.Laws.{FitsDepth, TermsAreTyped, FormulasAreTyped}
use Rattle.cb_typing.specs.Reflects.{IsProper, Stands, Means, Reflects}
use Rattle.cb_typing.proofs.Clean.{Clean, clean_of, not_bad, is_good}
use Rattle.cb_typing.proofs.Numbers.{negated_exact, negatives}
use Rattle.cb_typing.proofs.Signs.{by_number, by_set, right_of, size_small, small_unless, signs_agree}
use Rattle.cb_typing.proofs.Related.{Relates, relates, IsFull, onward, joined_full, Suits, suits_so, single_full}
use Rattle.cb_typing.proofs.Domains.{conjunct, is_domain, typing_sized}
use Rattle.cb_typing.proofs.Under.{new_name, is_new, knows_sets, under_reflects, under_named, under_stays}

unless : (b : Bool) (P : Type 0) → P → Unless b P
unless true P h = tt
unless false P h = h

unless_more : (b c : Bool) (P : Type 0) → Unless (b && c) P → Unless b P
unless_more true c P h = tt
unless_more false c P h = h

unless_as : (b : Bool) (P Q : Type 0) → (P → Q) → Unless b P → Unless b Q
unless_as true P Q f h = tt
unless_as false P Q f h = f h

never_up : (b c : Bool) → c ≡ false → (b && c) ≡ false
never_up true c e = e
never_up false c e = refl

free_range : (b : Bool) (o : RawOperator) → is_free_range b (sign_of o) ≡ (b && is_up_to o)
free_range true operator.Plus = refl
free_range true operator.Minus = refl
free_range true operator.Times = refl
free_range true operator.Divide = refl
free_range true operator.Mod = refl
free_range true operator.UpTo = refl
free_range true operator.Union = refl
free_range true operator.Intersection = refl
free_range false o = refl

-- a literal that is a divisor stays one
literal_stays : (v : View) (names : Names) (t : RawTermTree) (n : ℤ) → literal_of t ≡ Some n → literal (term_in v names t) ≡ Some n
literal_stays v names (raw.Number m p) n e = e
literal_stays v names (raw.Atom atom.MaxInt p) n e = e
literal_stays v names t n e = let no : ⊥ = cc in absurd no

same_number : (n : ℤ) → n ≤ℤ n
same_number n = omega (arith, ints)

pub below_is : (i n : ℕ) → i < n → nat_lt i n ≡ true
below_is i n h = by (nat_lt i n) refl
  where
    by : (b : Bool) → nat_lt i n ≡ b → b ≡ true
    by true e = refl
    by false e = absurd (omega (arith, h, ltb-false i n e))

-- a minus is a sign, or it is taken in
minus_is : (t : TermTree) → (minus t ≡ Neg t) ⊎ ((n : ℤ) × ((t ≡ Num n) × (minus t ≡ Num (neg_ℤ n))))
minus_is (Num n) = by (int_eq n (neg_ℤ (pos (2 ^ 63))))
  where
    by : (b : Bool) → ((if b then Neg (Num n) else Num (neg_ℤ n)) ≡ Neg (Num n)) ⊎ ((m : ℤ) × ((Num n ≡ Num m) × ((if b then Neg (Num n) else Num (neg_ℤ n)) ≡ Num (neg_ℤ m))))
    by true = inl refl
    by false = inr (n, (refl, refl))
minus_is t = inl refl

set_with_itself : (f : Form) → is_set f ≡ true → is_some_form (joined_form f f) ≡ true
set_with_itself f s = by_set (λ f. is_some_form (joined_form f f) ≡ true) (λ a b. refl) refl (λ k. rw (eq-eqb k k refl) refl) refl f s

empty_joins : (r k : Form) → joined_form form.Empty r ≡ Some k → (r ≡ k) × IsProper k
empty_joins (form.Numbers a b) k e = let i : form.Numbers a b ≡ k = same_Some _ _ e in (i, subst IsProper i tt)
empty_joins form.TruthSet k e = let i : form.TruthSet ≡ k = same_Some _ _ e in (i, subst IsProper i tt)
empty_joins (form.Elements j) k e = let i : form.Elements j ≡ k = same_Some _ _ e in (i, subst IsProper i tt)
empty_joins form.Empty k e = let i : form.Empty ≡ k = same_Some _ _ e in (i, subst IsProper i tt)
empty_joins r k e = let no : ⊥ = cc in absurd no

joined_nothing : (f : Form) → is_set f ≡ true → joined_form f form.Empty ≡ Some f
joined_nothing f s = by_set (λ f. joined_form f form.Empty ≡ Some f) (λ a b. refl) refl (λ k. refl) refl f s

abbrev SetOr : Option Form → Type 0
SetOr None = Unit {0}
SetOr (Some f) = is_set f ≡ true

joined_set : (f g : Form) → SetOr (joined_form f g)
joined_set (form.Numbers a b) (form.Numbers c d) = by (int_lt b a) (int_lt d c)
  where
    by : (t u : Bool) → is_set (if t then form.Numbers c d else (if u then form.Numbers a b else form.Numbers (int_min a c) (int_max b d))) ≡ true
    by true u = refl
    by false true = refl
    by false false = refl
joined_set (form.Numbers a b) form.Empty = refl
joined_set (form.Numbers a b) g = tt
joined_set form.TruthSet form.TruthSet = refl
joined_set form.TruthSet form.Empty = refl
joined_set form.TruthSet g = tt
joined_set (form.Elements j) (form.Elements k) = by (j == k)
  where
    by : (t : Bool) → SetOr (if t then Some (form.Elements j) else None)
    by true = refl
    by false = tt
joined_set (form.Elements j) form.Empty = refl
joined_set (form.Elements j) g = tt
joined_set form.Empty form.Empty = refl
joined_set form.Empty (form.Numbers a b) = refl
joined_set form.Empty form.TruthSet = refl
joined_set form.Empty (form.Elements k) = refl
joined_set form.Empty g = tt
joined_set f g = tt

joined_is_set : (f g d : Form) → joined_form f g ≡ Some d → is_set d ≡ true
joined_is_set f g d e = subst SetOr e (joined_set f g)

as_both : (o : RawOperator) (d : Option ℤ) (oa ob : Option Form) (f g : Form) (c : Option Form) → oa ≡ Some f → ob ≡ Some g → binary_form o d (Some f) (Some g) ≡ c → binary_form o d oa ob ≡ c
as_both o d oa ob f g c e h i = ap (λ x. binary_form o d x ob) e ∙ ap (λ y. binary_form o d (Some f) y) h ∙ i

module _ (v : View) (sizes : List ℕ) (scope : Scope) (taken : List Name) where
  -- the term has the form that was judged, and is typed
  pub record Good (inner : Scope) (on_right : Bool) (o : Option Form) (t : TermTree) : Type 0 where
    pub form : Form
    pub as_judged : o ≡ Some form
    pub as_typed : form_of sizes scope inner t ≡ Some form
    pub proper : IsProper form
    pub small : Unless on_right (IsSmall form)
    pub typed : TypedTerm sizes scope taken on_right inner t

  has_small : (inner : Scope) (t : TermTree) (f : Form) → form_of sizes scope inner t ≡ Some f → IsSmall f → HasSmallForm sizes scope inner t
  has_small inner t f e s = subst (λ o. IsSomeAnd o IsSmall) (sym e) s

  -- ---- names

  named_good : (inner : Scope) (on_right : Bool) (known : ℕ) (x : List ℕ) (p : Place) (o : Option Entry) → length inner ≤ 2 ^ 32 → ((e : Entry) → o ≡ Some e → Means v sizes scope inner known x e.meaning) →
      is_unknown v o ≡ false → Clean (size_fault (known_form v o) p) → Good inner on_right (known_form v o) (named known x o)
  named_good inner on_right known x p None l m k h = absurd (true≢false k)
  named_good inner on_right known x p (Some e) l m k h = go e.meaning (m e refl) (formed e.meaning (m e refl) k) h
    where
      left : (b : Bool) → (b && true) ≡ false → b ≡ false
      left true e = e
      left false e = refl

      formed : (m : Meaning) → Means v sizes scope inner known x m → (is_none (form_of_meaning v m) && not (is_unformed m)) ≡ false → is_none (form_of_meaning v m) ≡ false
      formed meaning.Unformed h k = absurd h
      formed m h k = left (is_none (form_of_meaning v m)) k

      seen : (b : Bool) (f : Form) (t : TermTree) → form_of sizes scope inner t ≡ Some f → IsProper f → (HasSmallForm sizes scope inner t → TypedTerm sizes scope taken on_right inner t) →
          is_none (if b then Some f else None) ≡ false → Clean (size_fault (if b then Some f else None) p) → Good inner on_right (if b then Some f else None) t
      seen true f t e i w k h = let s = size_small f p h in record {
        form = f;
        as_judged = refl;
        as_typed = e;
        proper = i;
        small = unless on_right (IsSmall f) s;
        typed = w (has_small inner t f e s);
      }
      seen false f t e i w k h = absurd (true≢false k)

      go : (m : Meaning) → Means v sizes scope inner known x m → is_none (form_of_meaning v m) ≡ false → Clean (size_fault (form_of_meaning v m) p) → Good inner on_right (form_of_meaning v m) (meaning_term known x m)
      go (meaning.Set owner set size) m k h =
          let q : nat_lt set (length sizes) ≡ true = below_is set (length sizes) (slice_get_within sizes set size m.0) in
          seen (is_in owner v.sees) (form.Elements set) (Elems set) (rw q refl) tt (λ s. s) k h
      go (meaning.Element owner set index) m k h =
          let q : nat_lt index (size_of_set sizes set) ≡ true = below_is index (size_of_set sizes set) m in
          seen (is_in owner v.sees) (form.Element set) (Elem set index) (rw q refl) tt (λ s. s) k h
      go (meaning.Constant owner n) m k h = seen (is_in owner v.sees) (form.Number n n) (Num n) refl (same_number n) (λ s. s) k h
      go (meaning.Variable owner f) m k h = read (is_in owner v.reads) m k h
        where
          read : (b : Bool) → (b ≡ true → Stands v sizes scope inner x f) → is_none (if b then Some (kinds.form_of f) else None) ≡ false → Clean (size_fault (if b then Some (kinds.form_of f) else None) p) → Good inner on_right (if b then Some (kinds.form_of f) else None) (Var (written x))
          read true m k h = let s = m refl in seen true (kinds.form_of f) (Var (written x)) s.0 s.1 (λ s. s) k h
          read false m k h = absurd (true≢false k)
      go (meaning.Local f) m k h = seen true (kinds.form_of f) (Var (written x)) m.0 m.1 (λ s. s) k h
      go (meaning.Bound level f) m k h =
          let w = slice_get_within (map (λ (p : Name × Form). p.1) inner) (known - level - 1) (kinds.form_of f) m.1 in
          let q : known - level - 1 < length inner = subst (λ n. known - level - 1 < n) (length-map inner (λ (p : Name × Form). p.1)) w in
          let i : index_of known level ≡ known - level - 1 = omega (arith, q, l) in
          seen true (kinds.form_of f) (Bound (index_of known level)) (rw i m.1) m.2 (λ s. s) k h
      go m n k h = absurd (true≢false k)

  -- ---- atoms

  atom_good : (inner : Scope) (on_right : Bool) (a : RawAtom) (p : Place) → Clean (size_unless on_right (Some (atom_form a)) p) → Good inner on_right (Some (atom_form a)) (atom_term a)
  atom_good inner on_right a p h = by a on_right (small_unless on_right (atom_form a) p h)
    where
      max_small : IsSmall (form.Number maxint maxint)
      max_small = (omega (arith, ints), omega (arith, ints))

      min_small : IsSmall (form.Number (neg_ℤ maxint) (neg_ℤ maxint))
      min_small = (omega (arith, ints), omega (arith, ints))

      zero_small : IsSmall (form.Number (pos 0) (pos 0))
      zero_small = (omega (arith, ints), omega (arith, ints))

      one_small : IsSmall (form.Number (pos 1) (pos 1))
      one_small = (omega (arith, ints), omega (arith, ints))

      wide : (lo hi : ℤ) → IsSmall (form.Number lo lo) → IsSmall (form.Number hi hi) → pos 256 ≤ℤ (hi -ℤ lo) → (b : Bool) → Unless b (IsSmall (form.Numbers lo hi)) → Good inner b (Some (form.Numbers lo hi)) (range lo hi)
      wide lo hi s t w true u = record { form = form.Numbers lo hi; as_judged = refl; as_typed = refl; proper = tt; small = tt; typed = (s, t, tt) }
      wide lo hi s t w false u = absurd (omega (arith, ints, w, u))

      by : (a : RawAtom) (b : Bool) → Unless b (IsSmall (atom_form a)) → Good inner b (Some (atom_form a)) (atom_term a)
      by atom.True b u = record { form = form.Truth; as_judged = refl; as_typed = refl; proper = tt; small = u; typed = tt }
      by atom.False b u = record { form = form.Truth; as_judged = refl; as_typed = refl; proper = tt; small = u; typed = tt }
      by atom.MaxInt b u = record { form = form.Number maxint maxint; as_judged = refl; as_typed = refl; proper = same_number maxint; small = u; typed = max_small }
      by atom.MinInt b u = record { form = form.Number (neg_ℤ maxint) (neg_ℤ maxint); as_judged = refl; as_typed = refl; proper = same_number (neg_ℤ maxint); small = u; typed = min_small }
      by atom.Nat b u = wide (pos 0) maxint zero_small max_small (omega (arith, ints)) b u
      by atom.Nat1 b u = wide (pos 1) maxint one_small max_small (omega (arith, ints)) b u
      by atom.Int b u = wide (neg_ℤ maxint) maxint min_small max_small (omega (arith, ints)) b u
      by atom.Truths b u = record { form = form.TruthSet; as_judged = refl; as_typed = refl; proper = tt; small = u; typed = tt }

  -- ---- signs

  binary_good : (inner : Scope) (on_right : Bool) (o : RawOperator) (p pa pb : Place) (oa ob : Option Form) (ta tb : TermTree) (d : Option ℤ) → ((n : ℤ) → d ≡ Some n → literal tb ≡ Some n) →
      Good inner false oa ta → Good inner false ob tb → Clean (operand_fault o oa pa ob pb) → Clean (divisor_fault o oa d p) → Clean (size_unless (on_right && is_up_to o) (binary_form o d oa ob) p) →
      Good inner on_right (binary_form o d oa ob) (Bin (sign_of o) ta tb)
  binary_good inner on_right o p pa pb oa ob ta tb d i a b h k w =
      let h' : Clean (operand_fault o (Some a.form) pa (Some b.form) pb) = rw (a.as_judged, b.as_judged) at h in
      let k' : Clean (divisor_fault o (Some a.form) d p) = rw a.as_judged at k in
      let w' : Clean (size_unless (on_right && is_up_to o) (binary_form o d (Some a.form) (Some b.form)) p) = rw (a.as_judged, b.as_judged) at w in
      let g = signs_agree (on_right && is_up_to o) d (literal tb) i p o (never_up on_right (is_up_to o)) a.form b.form pa pb h' a.proper a.small b.proper b.small k' w' in
      let e : form_of sizes scope inner (Bin (sign_of o) ta tb) ≡ Some g.form = rw (a.as_typed, b.as_typed) g.as_typed in
      record {
        form = g.form;
        as_judged = as_both o d oa ob a.form b.form (Some g.form) a.as_judged b.as_judged g.as_judged;
        as_typed = e;
        proper = g.proper;
        small = unless_more on_right (is_up_to o) (IsSmall g.form) g.small;
        typed = (
          a.typed,
          b.typed,
          subst (λ f. Unless f (HasSmallForm sizes scope inner (Bin (sign_of o) ta tb))) (sym (free_range on_right o))
              (unless_as (on_right && is_up_to o) (IsSmall g.form) (HasSmallForm sizes scope inner (Bin (sign_of o) ta tb)) (has_small inner (Bin (sign_of o) ta tb) g.form e) g.small),
        );
      }

  abbrev Turned : Scope → Bool → Place → TermTree → Form → Type 0
  Turned inner on_right p t f = form_of sizes scope inner t ≡ Some f → IsProper f → IsSmall f → TypedTerm sizes scope taken false inner t → Clean (size_fault (Some (number (negated (span_of (Some f))))) p) →
      Good inner on_right (Some (number (negated (span_of (Some f))))) (minus t)

  minus_good : (inner : Scope) (on_right : Bool) (p pa : Place) (o : Option Form) (t : TermTree) → Good inner false o t → Clean (wrong is_number o pa) → Clean (size_fault (Some (number (negated (span_of o)))) p) →
      Good inner on_right (Some (number (negated (span_of o)))) (minus t)
  minus_good inner on_right p pa o t a h k =
      let h' : Clean (wrong is_number (Some a.form) pa) = rw a.as_judged at h in
      let k' : Clean (size_fault (Some (number (negated (span_of (Some a.form))))) p) = rw a.as_judged at k in
      rw a.as_judged (by_number (Turned inner on_right p t) so a.form (right_of is_number a.form pa h') a.as_typed a.proper a.small a.typed k')
    where
      so : (lo hi : ℤ) → Turned inner on_right p t (form.Number lo hi)
      so lo hi e i s u k =
          let q : Some (number (negated (record { lo = lo; hi = hi }))) ≡ Some (form.Number (neg_ℤ hi) (neg_ℤ lo)) = ap (λ s. Some (number s)) (negated_exact lo hi s i) in
          let z = size_small (form.Number (neg_ℤ hi) (neg_ℤ lo)) p (subst (λ o. Clean (size_fault o p)) q k) in
          at q z (minus_is t)
        where
          at : Some (number (negated (record { lo = lo; hi = hi }))) ≡ Some (form.Number (neg_ℤ hi) (neg_ℤ lo)) → IsSmall (form.Number (neg_ℤ hi) (neg_ℤ lo)) →
              ((minus t ≡ Neg t) ⊎ ((n : ℤ) × ((t ≡ Num n) × (minus t ≡ Num (neg_ℤ n))))) → Good inner on_right (Some (number (negated (record { lo = lo; hi = hi })))) (minus t)
          at q z (inl m) =
              let f : form_of sizes scope inner (Neg t) ≡ Some (form.Number (neg_ℤ hi) (neg_ℤ lo)) = rw e refl in
              rw m (record {
                form = form.Number (neg_ℤ hi) (neg_ℤ lo);
                as_judged = q;
                as_typed = f;
                proper = negatives lo hi i;
                small = unless on_right (IsSmall (form.Number (neg_ℤ hi) (neg_ℤ lo))) z;
                typed = (u, has_small inner (Neg t) (form.Number (neg_ℤ hi) (neg_ℤ lo)) f z);
              })
          at q z (inr m) =
              let g : form.Number m.0 m.0 ≡ form.Number lo hi = same_Some _ _ (sym (ap (form_of sizes scope inner) m.1.0) ∙ e) in
              let lo_is : m.0 ≡ lo = cc in
              let hi_is : m.0 ≡ hi = cc in
              let f : Some (form.Number (neg_ℤ m.0) (neg_ℤ m.0)) ≡ Some (form.Number (neg_ℤ hi) (neg_ℤ lo)) = cc in
              rw (m.1.1) (record {
                form = form.Number (neg_ℤ hi) (neg_ℤ lo);
                as_judged = q;
                as_typed = f;
                proper = negatives lo hi i;
                small = unless on_right (IsSmall (form.Number (neg_ℤ hi) (neg_ℤ lo))) z;
                typed = has_small inner (Num (neg_ℤ m.0)) (form.Number (neg_ℤ hi) (neg_ℤ lo)) f z;
              })

  card_good : (inner : Scope) (on_right : Bool) (pa : Place) (o : Option Form) (t : TermTree) → Good inner false o t → Clean (wrong is_set o pa) → Good inner on_right (Some (form.Number (pos 0) (pos 256))) (Card t)
  card_good inner on_right pa o t a h =
      let h' : Clean (wrong is_set (Some a.form) pa) = rw a.as_judged at h in
      let j = set_with_itself a.form (right_of is_set a.form pa h') in
      let e : form_of sizes scope inner (Card t) ≡ Some (form.Number (pos 0) (pos 256)) = rw a.as_typed (rw j refl) in
      let s : IsSmall (form.Number (pos 0) (pos 256)) = (omega (arith, ints), omega (arith, ints)) in
      record {
        form = form.Number (pos 0) (pos 256);
        as_judged = refl;
        as_typed = e;
        proper = omega (arith, ints);
        small = unless on_right (IsSmall (form.Number (pos 0) (pos 256))) s;
        typed = (a.typed, has_small inner (Card t) (form.Number (pos 0) (pos 256)) e s);
      }

  -- ---- relations

  rel_typed : (inner : Scope) (s : RelSign) (ta tb : TermTree) (f g : Form) → TypedTerm sizes scope taken false inner ta → TypedTerm sizes scope taken (is_membership s) inner tb →
      form_of sizes scope inner ta ≡ Some f → form_of sizes scope inner tb ≡ Some g → may_relate s f g ≡ true → TypedFormula sizes scope taken inner (Rel s ta tb)
  rel_typed inner s ta tb f g t u e h r =
      (t, u, rw e (subst (λ o. IsSomeAnd o (λ g. may_relate s f g ≡ true)) (sym h) r))

  related_typed : (inner : Scope) (r : RawRelation) (oa ob : Option Form) (ta tb : TermTree) (a : Good inner false oa ta) (b : Good inner (judged.is_membership r) ob tb) → Relates r a.form b.form →
      TypedFormula sizes scope taken inner (related r ta tb)
  related_typed inner relation.Equal oa ob ta tb a b q = rel_typed inner Equal ta tb a.form b.form a.typed b.typed a.as_typed b.as_typed q
  related_typed inner relation.Unequal oa ob ta tb a b q = rel_typed inner Equal ta tb a.form b.form a.typed b.typed a.as_typed b.as_typed q
  related_typed inner relation.Less oa ob ta tb a b q = rel_typed inner Less ta tb a.form b.form a.typed b.typed a.as_typed b.as_typed q
  related_typed inner relation.AtMost oa ob ta tb a b q = rel_typed inner AtMost ta tb a.form b.form a.typed b.typed a.as_typed b.as_typed q
  related_typed inner relation.Greater oa ob ta tb a b q = rel_typed inner Less tb ta b.form a.form b.typed a.typed b.as_typed a.as_typed q
  related_typed inner relation.AtLeast oa ob ta tb a b q = rel_typed inner AtMost tb ta b.form a.form b.typed a.typed b.as_typed a.as_typed q
  related_typed inner relation.Member oa ob ta tb a b q = rel_typed inner Member ta tb a.form b.form a.typed b.typed a.as_typed b.as_typed q
  related_typed inner relation.NotMember oa ob ta tb a b q = rel_typed inner Member ta tb a.form b.form a.typed b.typed a.as_typed b.as_typed q
  related_typed inner relation.Subset oa ob ta tb a b q = rel_typed inner Subset ta tb a.form b.form a.typed b.typed a.as_typed b.as_typed q

  relation_good : (inner : Scope) (r : RawRelation) (pa pb : Place) (oa ob : Option Form) (ta tb : TermTree) → Good inner false oa ta → Good inner (judged.is_membership r) ob tb → Clean (side_fault r oa pa ob pb) →
      TypedFormula sizes scope taken inner (related r ta tb)
  relation_good inner r pa pb oa ob ta tb a b h =
      let h' : Clean (side_fault r (Some a.form) pa (Some b.form) pb) = rw (a.as_judged, b.as_judged) at h in
      related_typed inner r oa ob ta tb a b (relates r a.form b.form pa pb h')

  -- ---- binders

  -- what is known of a bound variable's domain
  pub record Chosen (names : Names) (inner : Scope) (x : RawName) (o : Option Choice) : Type 0 where
    pub by : Choice
    pub is : o ≡ Some by
    pub new : found x.text names ≡ None
    pub fits : IsDomain sizes by.domain × IsChoosable sizes by.domain × IsProper (form_of_domain by.domain)

  pub chosen : (names : Names) (inner : Scope) → Reflects v names sizes scope taken inner → (x : RawName) (f : RawFormulaTree) → Clean (chosen_fault names x (typing_in v names x.text f)) →
      Chosen names inner x (typing_in v names x.text f)
  chosen names inner r x f h = by (typing_in v names x.text f) refl h.1
    where
      by : (o : Option Choice) → typing_in v names x.text f ≡ o → Clean (choice_faults o x.place) → Chosen names inner x o
      by None e k = absurd k.0
      by (Some c) e k = record {
        by = c;
        is = refl;
        new = new_name names x h.0;
        fits = is_domain sizes c x.place (typing_sized v names sizes (knows_sets v names sizes scope taken inner r) x.text f c e) k;
      }

  under_chosen : (names : Names) (inner : Scope) → Reflects v names sizes scope taken inner → (x : RawName) (o : Option Choice) (c : Chosen names inner x o) →
      Reflects v (under x o names) sizes scope taken ((written x.text, form_of_domain c.by.domain) ∷ inner)
  under_chosen names inner r x o c =
      subst (λ o. Reflects v (under x o names) sizes scope taken ((written x.text, form_of_domain c.by.domain) ∷ inner)) (sym c.is)
      (under_reflects v names sizes scope taken inner r x c.by c.new c.fits.2)

  has_conjunct : (names : Names) (inner : Scope) → Reflects v names sizes scope taken inner → (x : RawName) (f : RawFormulaTree) (c : Chosen names inner x (typing_in v names x.text f)) →
      HasConjunct (typing (Bound 0) c.by.domain) (formula_in v (under x (typing_in v names x.text f) names) f)
  has_conjunct names inner r x f c =
      subst (λ o. HasConjunct (typing (Bound 0) c.by.domain) (formula_in v (under x o names) f)) (sym c.is)
      (conjunct v v names (under x (Some c.by) names) (under_stays v names sizes scope taken inner r x c.by c.new) x.text (Bound 0) (under_named v names sizes scope taken inner r x c.by c.new) f c.by c.is)

  -- ---- the walk

  -- the rest of a set's terms, where the set has the form
  record Rest (inner : Scope) (before after : Form) (ts : TermTrees) : Type 0 where
    rest : Form
    as_typed : form_of_listed sizes scope inner ts ≡ Some rest
    joins : joined_form before rest ≡ Some after
    full : IsFull rest
    typed : TypedTerms sizes scope taken inner ts

  item_good : (inner : Scope) (before after : Form) (t : TermTree) (ts : TermTrees) (f : Form) → IsFull before → form_of sizes scope inner t ≡ Some f → IsProper f → TypedTerm sizes scope taken false inner t →
      (s : Suits before f) → Rest inner s.next after ts → Rest inner before after (tree.More t ts)
  item_good inner before after t ts f w e i u s k =
      let o = onward f before s.one k.rest s.next after i s.is_single w k.full s.joins k.joins in
      record {
        rest = o.both;
        as_typed = rw e (rw s.is_single (rw k.as_typed o.joins));
        joins = o.all;
        full = o.full;
        typed = (u, k.typed);
      }

  listed_good : (inner : Scope) (on_right : Bool) (p : Place) (g : Form) (ts : TermTrees) → Rest inner form.Empty g ts → Clean (size_fault (Some g) p) → Good inner on_right (Some g) (Listed ts)
  listed_good inner on_right p g ts k h =
      let q = empty_joins k.rest g k.joins in
      let s = size_small g p h in
      let e : form_of_listed sizes scope inner ts ≡ Some g = k.as_typed ∙ ap Some q.0 in
      record { form = g; as_judged = refl; as_typed = e; proper = q.1; small = unless on_right (IsSmall g) s; typed = (k.typed, has_small inner (Listed ts) g e s) }

  -- one term more of a set; `onwards` is the rest of it
  more_good : (names : Names) (inner : Scope) (before : Form) (t : RawTermTree) (ts : RawTerms) → IsFull before → Good inner false (form_in v names t) (term_in v names t) →
      Clean (fault_if (not (suits before (form_in v names t))) 5 (place_of t)) → Clean (fault_from v names (with_item before (form_in v names t)) ts) →
      ((next : Form) → IsFull next → is_set next ≡ true → Clean (fault_from v names next ts) → Rest inner next (listed_from v names next ts) (terms_in v names ts)) →
      Rest inner before (listed_from v names before (raw.More t ts)) (terms_in v names (raw.More t ts))
  more_good names inner before t ts w a h k onwards =
      let h' : suits before (Some a.form) ≡ true = ap (suits before) (sym a.as_judged) ∙ is_good _ 5 (place_of t) h in
      let s = suits_so before a.form h' in
      let q : with_item before (form_in v names t) ≡ s.next = ap (with_item before) a.as_judged ∙ s.so in
      let z = onwards s.next (joined_full before s.one s.next w (single_full a.form s.one a.proper s.is_single) s.joins) (joined_is_set before s.one s.next s.joins) (subst (λ n. Clean (fault_from v names n ts)) q k) in
      let i = item_good inner before (listed_from v names s.next ts) (term_in v names t) (terms_in v names ts) a.form w a.as_typed a.proper a.typed s z in
      subst (λ n. Rest inner before (listed_from v names n ts) (terms_in v names (raw.More t ts))) (sym q) i

  mutual
    pub term_good : (t : RawTermTree) (names : Names) (inner : Scope) → Reflects v names sizes scope taken inner → (on_right : Bool) → FitsDepth inner (term_depth t) → Clean (fault_in v names on_right t) →
        Good inner on_right (form_in v names t) (term_in v names t)
    term_good (raw.Number n p) names inner r on_right l h =
        let s = size_small (form.Number n n) p h in
        record { form = form.Number n n; as_judged = refl; as_typed = refl; proper = same_number n; small = unless on_right (IsSmall (form.Number n n)) s; typed = s }
    term_good (raw.Name x) names inner r on_right l h =
        named_good inner on_right (length names) x.text x.place (found x.text names) (omega (arith, l)) (r.means x.text) (not_bad _ 2 x.place h.0) h.1
    term_good (raw.Atom a p) names inner r on_right l h = atom_good inner on_right a p h
    term_good (raw.Binary o p a b) names inner r on_right l h =
        binary_good inner on_right o p (place_of a) (place_of b) (form_in v names a) (form_in v names b) (term_in v names a) (term_in v names b) (literal_of b) (literal_stays v names b)
        (term_good a names inner r false (omega (arith, l)) h.0.0) (term_good b names inner r false (omega (arith, l)) h.0.1) h.1.0.0 h.1.0.1 h.1.1
    term_good (raw.Minus p a) names inner r on_right l h =
        minus_good inner on_right p (place_of a) (form_in v names a) (term_in v names a) (term_good a names inner r false l h.0) h.1.0 h.1.1
    term_good (raw.Card p a) names inner r on_right l h =
        card_good inner on_right (place_of a) (form_in v names a) (term_in v names a) (term_good a names inner r false l h.0) h.1
    term_good (raw.TruthOf p f) names inner r on_right l h =
        record { form = form.Truth; as_judged = refl; as_typed = refl; proper = tt; small = unless on_right (IsSmall form.Truth) tt; typed = formula_good f names inner r l h }
    term_good (raw.Listed p ts) names inner r on_right l h = listed_good inner on_right p (listed_from v names form.Empty ts) (terms_in v names ts) (terms_good ts names inner r l form.Empty tt refl h.0) h.1

    terms_good : (ts : RawTerms) (names : Names) (inner : Scope) → Reflects v names sizes scope taken inner → FitsDepth inner (terms_depth ts) → (before : Form) → IsFull before → is_set before ≡ true →
        Clean (fault_from v names before ts) → Rest inner before (listed_from v names before ts) (terms_in v names ts)
    terms_good raw.End names inner r l before w s h = record { rest = form.Empty; as_typed = refl; joins = joined_nothing before s; full = tt; typed = tt }
    terms_good (raw.More t ts) names inner r l before w s h =
        more_good names inner before t ts w (term_good t names inner r false (omega (arith, l)) h.0.0) h.0.1 h.1
        (λ next w s k. terms_good ts names inner r (omega (arith, l)) next w s k)

    pub formula_good : (f : RawFormulaTree) (names : Names) (inner : Scope) → Reflects v names sizes scope taken inner → FitsDepth inner (formula_depth f) → Clean (fault_of v names f) →
        TypedFormula sizes scope taken inner (formula_in v names f)
    formula_good raw.True names inner r l h = tt
    formula_good raw.False names inner r l h = tt
    formula_good (raw.Not f) names inner r l h = formula_good f names inner r l h
    formula_good (raw.And f g) names inner r l h = (formula_good f names inner r (omega (arith, l)) h.0, formula_good g names inner r (omega (arith, l)) h.1)
    formula_good (raw.Or f g) names inner r l h = (formula_good f names inner r (omega (arith, l)) h.0, formula_good g names inner r (omega (arith, l)) h.1)
    formula_good (raw.Implies f g) names inner r l h = (formula_good f names inner r (omega (arith, l)) h.0, formula_good g names inner r (omega (arith, l)) h.1)
    formula_good (raw.Equivalent f g) names inner r l h = (formula_good f names inner r (omega (arith, l)) h.0, formula_good g names inner r (omega (arith, l)) h.1)
    formula_good (raw.Relation q p a b) names inner r l h =
        relation_good inner q (place_of a) (place_of b) (form_in v names a) (form_in v names b) (term_in v names a) (term_in v names b)
        (term_good a names inner r false (omega (arith, l)) h.0.0) (term_good b names inner r (judged.is_membership q) (omega (arith, l)) h.0.1) h.1
    formula_good (raw.Every x d f) names inner r l h =
        let c = chosen names inner r x d h.0 in
        let u = under_chosen names inner r x (typing_in v names x.text d) c in
        let more = under x (typing_in v names x.text d) names in (
          c.by.domain,
          (
            has_conjunct names inner r x d c,
            ap (λ o. kind_of_domain (domain_or o)) (sym c.is),
            c.fits.0,
            c.fits.1,
            is_new v names sizes scope taken inner r x.text c.new,
            (
              formula_good d more ((written x.text, form_of_domain c.by.domain) ∷ inner) u (omega (arith, l)) h.1.0,
              formula_good f more ((written x.text, form_of_domain c.by.domain) ∷ inner) u (omega (arith, l)) h.1.1,
            ),
          ),
        )
    formula_good (raw.Exists x f) names inner r l h =
        let c = chosen names inner r x f h.0 in
        let u = under_chosen names inner r x (typing_in v names x.text f) c in (
          c.by.domain,
          (
            has_conjunct names inner r x f c,
            ap (λ o. kind_of_domain (domain_or o)) (sym c.is),
            c.fits.0,
            c.fits.1,
            is_new v names sizes scope taken inner r x.text c.new,
            formula_good f (under x (typing_in v names x.text f) names) ((written x.text, form_of_domain c.by.domain) ∷ inner) u (omega (arith, l)) h.1,
          ),
        )

-- ---- the laws

pub terms_are_typed : TermsAreTyped
terms_are_typed v names sizes scope taken inner r on_right t l h =
    let g = term_good v sizes scope taken t names inner r on_right l (clean_of (fault_in v names on_right t) h) in
    (g.form, (g.as_judged, g.as_typed, g.typed))

pub formulas_are_typed : FormulasAreTyped
formulas_are_typed v names sizes scope taken inner r f l h = formula_good v sizes scope taken f names inner r l (clean_of (fault_of v names f) h)
