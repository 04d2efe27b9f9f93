-- What the rules on sets make of formulas that fit fits.
use Rattle.std.proofs.Common.{◌≡◌, ℕ, pos, true, false, ◌&&◌, List, [], ◌∷◌, ◌++◌, Option, Some, None, refl, sym, ap, ap₂, ◌∙◌, subst, true≢false, if◌then◌else◌}
use Rattle.std.specs.Prelude.{is_some}
use Rattle.std.proofs.lemmas.Bool.{and_from, eq-eqb}
use Rattle.std.proofs.lemmas.Option.{same_Some}
use Rattle.cb_term.specs.declared.name.Name.{Name}
use Rattle.cb_term.specs.declared.kind.Kind.{Kind}
use Rattle.cb_term.specs.declared.kind.Kind.TheVariants as kind
use Rattle.cb_term.specs.declared.kind.Base.{Base}
use Rattle.cb_term.specs.declared.kind.Base.TheVariants as base
use Rattle.cb_term.specs.declared.sign.TermSign.TheVariants.{Add, Minus, Range, Union, Inter}
use Rattle.cb_term.specs.declared.sign.RelSign.{RelSign}
use Rattle.cb_term.specs.declared.sign.RelSign.TheVariants.{Equal, AtMost, Member}
use Rattle.cb_term.specs.Kinds.{same_base}
use Rattle.cb_term.specs.Tree.{TermTree, Var, Num, Bin, Card, Listed, Elems, Truths, TermTrees, End, More, FormulaTree, Rel, Or}
use Rattle.cb_term.proofs.ValueLemmas.{same_base_tells}
use Rattle.cb_seq.specs.Kinds.{kind_in, kind_of, kind_of_all, fits, rel_kinds, common_set, bin_kind, card_kind, more_kind, one_kind, both_kinds, both_fit, base_of, is_base}
use Rattle.cb_seq.proofs.KindLemmas.{both_true, both_some, test_some}
use Rattle.cb_seq.proofs.MoreNames.{kind_naming, more_new}
use Rattle.cb_check_sets.specs.Members.{membership, or_one_of}
use Rattle.cb_check_sets.specs.SetRules.{item_kind, kind_of_base, only}
use Rattle.cb_check_sets.proofs.MemberLemmas.{HoldsBase, member_base, more_base, member_set, minus_common, union_common, inter_common, range_kinds, integer_of}

no_kind : {A : Type 0} {x : A} → None ≡ Some x → ⊥
no_kind e = cc

not_so : false ≡ true → ⊥
not_so e = true≢false (sym e)

base_self : (b : Base) → same_base b b ≡ true
base_self base.Integer = refl
base_self base.Truth = refl
base_self (base.Elem k) = eq-eqb k k refl

base_known : (b : Base) (o : Option Base) → is_base b o ≡ true → is_some o ≡ true
base_known b None e = absurd (not_so e)
base_known b (Some c) e = refl

base_back : (b : Base) → base_of (kind_of_base b) ≡ Some b
base_back base.Integer = refl
base_back base.Truth = refl
base_back (base.Elem k) = refl

-- ---- a member of the common kind may be in either set

module _ (k : Kind) where
  common_first : (l m n : Kind) → common_set l m ≡ Some n → rel_kinds Member k n ≡ true → rel_kinds Member k l ≡ true
  common_first (kind.SetOf b) (kind.SetOf c) n e i = subst (λ z. rel_kinds Member k z ≡ true) (sym (test_some (same_base b c) (kind.SetOf b) n e).1) i
  common_first (kind.SetOf b) kind.EmptySet n e i = subst (λ z. rel_kinds Member k z ≡ true) (sym (same_Some _ _ e)) i
  common_first kind.EmptySet (kind.SetOf b) n e i = base_known b (base_of k) (subst (λ z. rel_kinds Member k z ≡ true) (sym (same_Some _ _ e)) i)
  common_first kind.EmptySet kind.EmptySet n e i = subst (λ z. rel_kinds Member k z ≡ true) (sym (same_Some _ _ e)) i
  common_first l m n e i = absurd (no_kind e)

  common_second : (l m n : Kind) → common_set l m ≡ Some n → rel_kinds Member k n ≡ true → rel_kinds Member k m ≡ true
  common_second (kind.SetOf b) (kind.SetOf c) n e i =
      let p = test_some (same_base b c) (kind.SetOf b) n e in
      subst (λ z. rel_kinds Member k z ≡ true) (sym p.1 ∙ ap kind.SetOf (same_base_tells b c p.0)) i
  common_second (kind.SetOf b) kind.EmptySet n e i = base_known b (base_of k) (subst (λ z. rel_kinds Member k z ≡ true) (sym (same_Some _ _ e)) i)
  common_second kind.EmptySet (kind.SetOf b) n e i = subst (λ z. rel_kinds Member k z ≡ true) (sym (same_Some _ _ e)) i
  common_second kind.EmptySet kind.EmptySet n e i = subst (λ z. rel_kinds Member k z ≡ true) (sym (same_Some _ _ e)) i
  common_second l m n e i = absurd (no_kind e)

-- the kind that SUBSET opens a name with is that of an item of the common kind
item_member : (k l m : Kind) → common_set k l ≡ Some m → rel_kinds Member (item_kind (Some k) (Some l)) m ≡ true
item_member (kind.SetOf b) (kind.SetOf c) m e =
    subst (λ z. rel_kinds Member (kind_of_base b) z ≡ true) (test_some (same_base b c) (kind.SetOf b) m e).1 (ap (is_base b) (base_back b) ∙ base_self b)
item_member (kind.SetOf b) kind.EmptySet m e = subst (λ z. rel_kinds Member (kind_of_base b) z ≡ true) (same_Some _ _ e) (ap (is_base b) (base_back b) ∙ base_self b)
item_member kind.EmptySet (kind.SetOf b) m e = subst (λ z. rel_kinds Member (kind_of_base b) z ≡ true) (same_Some _ _ e) (ap (is_base b) (base_back b) ∙ base_self b)
item_member kind.EmptySet kind.EmptySet m e = subst (λ z. rel_kinds Member kind.Integer z ≡ true) (same_Some _ _ e) refl
item_member k l m e = absurd (no_kind e)

equal_bases : (b : Base) (k l : Kind) → base_of k ≡ Some b → base_of l ≡ Some b → rel_kinds Equal k l ≡ true
equal_bases b kind.Integer kind.Integer e f = refl
equal_bases b kind.Truth kind.Truth e f = refl
equal_bases b (kind.Elem j) (kind.Elem k) e f = let same : j ≡ k = cc (e, f) in eq-eqb j k same
equal_bases b k l e f = cc

-- a set with one item more or less
with_one : (k l : Kind) → rel_kinds Member l k ≡ true → (n m : Kind) × (more_kind l kind.EmptySet ≡ Some n) × (common_set k n ≡ Some m) × (card_kind m ≡ Some kind.Integer)
with_one (kind.SetOf b) kind.Integer e = (kind.SetOf base.Integer, kind.SetOf b, refl, ap (λ t. if t then Some (kind.SetOf b) else None) e, refl)
with_one (kind.SetOf b) kind.Truth e = (kind.SetOf base.Truth, kind.SetOf b, refl, ap (λ t. if t then Some (kind.SetOf b) else None) e, refl)
with_one (kind.SetOf b) (kind.Elem j) e = (kind.SetOf (base.Elem j), kind.SetOf b, refl, ap (λ t. if t then Some (kind.SetOf b) else None) e, refl)
with_one kind.EmptySet kind.Integer e = (kind.SetOf base.Integer, kind.SetOf base.Integer, refl, refl, refl)
with_one kind.EmptySet kind.Truth e = (kind.SetOf base.Truth, kind.SetOf base.Truth, refl, refl, refl)
with_one kind.EmptySet (kind.Elem j) e = (kind.SetOf (base.Elem j), kind.SetOf (base.Elem j), refl, refl, refl)
with_one k l e = absurd (not_so e)

minus_back : (k l m : Kind) → common_set k l ≡ Some m → bin_kind Minus k l ≡ Some m
minus_back kind.Integer kind.Integer m e = absurd (no_kind e)
minus_back k l m e = e

set_card : (k l : Kind) → rel_kinds Member l k ≡ true → card_kind k ≡ Some kind.Integer
set_card (kind.SetOf b) l e = refl
set_card kind.EmptySet l e = refl
set_card k l e = absurd (not_so e)

common_card : (k l m : Kind) → common_set k l ≡ Some m → (card_kind k ≡ Some kind.Integer) × (card_kind l ≡ Some kind.Integer)
common_card (kind.SetOf b) (kind.SetOf c) m e = (refl, refl)
common_card (kind.SetOf b) kind.EmptySet m e = (refl, refl)
common_card kind.EmptySet (kind.SetOf b) m e = (refl, refl)
common_card kind.EmptySet kind.EmptySet m e = (refl, refl)
common_card k l m e = absurd (no_kind e)

-- ---- formulas

module _ (sizes : List ℕ) (names : List (Name × Kind)) where
  abbrev Has : TermTree → Kind → Type 0
  Has t k = kind_of sizes names [] t ≡ Some k

  pub rel_fits : (sign : RelSign) (s t : TermTree) (k l : Kind) → Has s k → Has t l → rel_kinds sign k l ≡ true → fits sizes names [] (Rel sign s t) ≡ true
  rel_fits sign s t k l e f g = ap₂ (both_fit (rel_kinds sign)) e f ∙ g

  card_has : (s : TermTree) (k : Kind) → Has s k → card_kind k ≡ Some kind.Integer → Has (Card s) kind.Integer
  card_has s k e c = ap (one_kind card_kind) e ∙ c

  more_has : (s : TermTree) → Has (Card s) kind.Integer → Has (Bin Add (Card s) (Num (pos 1))) kind.Integer
  more_has s e = ap (λ o. both_kinds (bin_kind Add) o (Some kind.Integer)) e

  pub card_fits : (s : TermTree) (k : Kind) → Has s k → card_kind k ≡ Some kind.Integer → fits sizes names [] (Rel AtMost (Num (pos 0)) (Card s)) ≡ true
  card_fits s k e c = rel_fits AtMost (Num (pos 0)) (Card s) kind.Integer kind.Integer refl (card_has s k e c) refl

  module _ (s t : TermTree) (k l : Kind) (es : Has s k) (et : Has t l) (may : rel_kinds Member l k ≡ true) where
    only_has : Has (only t) (with_one k l may).0
    only_has = ap (λ o. both_kinds more_kind o (Some kind.EmptySet)) et ∙ (with_one k l may).2

    pub added_fits : fits sizes names [] (Rel Equal (Card (Bin Union s (only t))) (Bin Add (Card s) (Num (pos 1)))) ≡ true
    added_fits =
        let p = with_one k l may in
        let sum : Has (Bin Union s (only t)) p.1 = ap₂ (both_kinds (bin_kind Union)) es only_has ∙ p.3 in
        rel_fits Equal (Card (Bin Union s (only t))) (Bin Add (Card s) (Num (pos 1))) kind.Integer kind.Integer (card_has (Bin Union s (only t)) p.1 sum p.4) (more_has s (card_has s k es (set_card k l may))) refl

    pub removed_fits : fits sizes names [] (Rel Equal (Bin Add (Card (Bin Minus s (only t))) (Num (pos 1))) (Card s)) ≡ true
    removed_fits =
        let p = with_one k l may in
        let rest : Has (Bin Minus s (only t)) p.1 = ap₂ (both_kinds (bin_kind Minus)) es only_has ∙ minus_back k p.0 p.1 p.3 in
        rel_fits Equal (Bin Add (Card (Bin Minus s (only t))) (Num (pos 1))) (Card s) kind.Integer kind.Integer (more_has (Bin Minus s (only t)) (card_has (Bin Minus s (only t)) p.1 rest p.4)) (card_has s k es (set_card k l may)) refl

  pub sizes_fit : (s t : TermTree) (k l m : Kind) → Has s k → Has t l → common_set k l ≡ Some m → fits sizes names [] (Rel AtMost (Card s) (Card t)) ≡ true
  sizes_fit s t k l m es et e =
      let c = common_card k l m e in rel_fits AtMost (Card s) (Card t) kind.Integer kind.Integer (card_has s k es c.0) (card_has t l et c.1) refl

  -- the name that SUBSET opens may be in both sets
  module _ (s u : TermTree) (k l m : Kind) (es : Has s k) (eu : Has u l) (e : common_set k l ≡ Some m) (y : Name) (none : kind_in names y ≡ None) where
    abbrev OpenedIn : TermTree → Type 0
    OpenedIn r = fits sizes (names ++ (y, item_kind (Some k) (Some l)) ∷ []) [] (Rel Member (Var y) r) ≡ true

    opened_in : (r : TermTree) (n : Kind) → Has r n → rel_kinds Member (item_kind (Some k) (Some l)) n ≡ true → OpenedIn r
    opened_in r n er may = ap₂ (both_fit (rel_kinds Member)) (more_new names y (item_kind (Some k) (Some l)) none) (kind_naming sizes names (y, item_kind (Some k) (Some l)) r [] n er) ∙ may

    pub opened_fits : OpenedIn s × OpenedIn u
    opened_fits = (opened_in s k es (common_first _ k l m e (item_member k l m e)), opened_in u l eu (common_second _ k l m e (item_member k l m e)))

  -- ---- members

  one_of_fits : (t : TermTree) (k : Kind) (b : Base) → Has t k → base_of k ≡ Some b → (es : TermTrees) (m : Kind) → kind_of_all sizes names [] es ≡ Some m → HoldsBase b m →
      (f : FormulaTree) → fits sizes names [] f ≡ true → fits sizes names [] (or_one_of f t es) ≡ true
  one_of_fits t k b et bk End m e h f fit = fit
  one_of_fits t k b et bk (More a es) m e h f fit =
      let p = both_some more_kind (kind_of sizes names [] a) (kind_of_all sizes names [] es) m e in
      let r = more_base b p.0 p.1 m p.4 h in
      one_of_fits t k b et bk es p.1 p.3 r.1 (Or f (Rel Equal t a)) (and_from _ _ fit (rel_fits Equal t a k p.0 et p.2 (equal_bases b k p.0 bk r.0)))

  two_fit : (t a b : TermTree) (k ka kb m : Kind) → Has t k → Has a ka → Has b kb → common_set ka kb ≡ Some m → rel_kinds Member k m ≡ true →
      (fits sizes names [] (Rel Member t a) && fits sizes names [] (Rel Member t b)) ≡ true
  two_fit t a b k ka kb m et ea eb e may =
      and_from _ _ (rel_fits Member t a k ka et ea (common_first k ka kb m e may)) (rel_fits Member t b k kb et eb (common_second k ka kb m e may))

  pub membership_fits : (t s : TermTree) (f : FormulaTree) → membership t s ≡ Some f → fits sizes names [] (Rel Member t s) ≡ true → fits sizes names [] f ≡ true
  membership_fits t s f e fit = by_set_term s f e (both_true (rel_kinds Member) (kind_of sizes names [] t) (kind_of sizes names [] s) fit)
    where
      Fits : FormulaTree → Type 0
      Fits g = fits sizes names [] g ≡ true

      Kinds : TermTree → Type 0
      Kinds s = (k : Kind) × (m : Kind) × Has t k × Has s m × (rel_kinds Member k m ≡ true)

      by_set_term : (s : TermTree) (f : FormulaTree) → membership t s ≡ Some f → Kinds s → Fits f
      by_set_term (Bin Union a b) f e p =
          let r = both_some (bin_kind Union) (kind_of sizes names [] a) (kind_of sizes names [] b) p.1 p.3 in
          subst Fits (same_Some _ f e) (two_fit t a b p.0 r.0 r.1 p.1 p.2 r.2 r.3 (union_common r.0 r.1 p.1 r.4) p.4)
      by_set_term (Bin Inter a b) f e p =
          let r = both_some (bin_kind Inter) (kind_of sizes names [] a) (kind_of sizes names [] b) p.1 p.3 in
          subst Fits (same_Some _ f e) (two_fit t a b p.0 r.0 r.1 p.1 p.2 r.2 r.3 (inter_common r.0 r.1 p.1 r.4) p.4)
      by_set_term (Bin Minus a b) f e p =
          let r = both_some (bin_kind Minus) (kind_of sizes names [] a) (kind_of sizes names [] b) p.1 p.3 in
          subst Fits (same_Some _ f e) (two_fit t a b p.0 r.0 r.1 p.1 p.2 r.2 r.3 (minus_common sizes r.0 r.1 p.1 r.4 (member_set sizes p.0 p.1 p.4)) p.4)
      by_set_term (Bin Range a b) f e p =
          let r = both_some (bin_kind Range) (kind_of sizes names [] a) (kind_of sizes names [] b) p.1 p.3 in
          let n = range_kinds r.0 r.1 p.1 r.4 in
          let et : Has t kind.Integer = p.2 ∙ ap Some (integer_of p.0 (subst (λ m. rel_kinds Member p.0 m ≡ true) n.2 p.4)) in
          subst Fits (same_Some _ f e) (and_from _ _ (rel_fits AtMost a t kind.Integer kind.Integer (r.2 ∙ ap Some n.0) et refl) (rel_fits AtMost t b kind.Integer kind.Integer et (r.3 ∙ ap Some n.1) refl))
      by_set_term (Listed End) f e p = subst Fits (same_Some _ f e) refl
      by_set_term (Listed (More a es)) f e p =
          let r = both_some more_kind (kind_of sizes names [] a) (kind_of_all sizes names [] es) p.1 p.3 in
          let b = member_base p.0 p.1 p.4 in
          let n = more_base b.0 r.0 r.1 p.1 r.4 b.2 in
          subst Fits (same_Some _ f e) (one_of_fits t p.0 b.0 p.2 b.1 es r.1 r.3 n.1 (Rel Equal t a) (rel_fits Equal t a p.0 r.0 p.2 r.2 (equal_bases b.0 p.0 r.0 b.1 n.0)))
      by_set_term (Elems set) f e p = subst Fits (same_Some _ f e) refl
      by_set_term Truths f e p = subst Fits (same_Some _ f e) refl
      by_set_term s f e p = absurd (no_kind e)
