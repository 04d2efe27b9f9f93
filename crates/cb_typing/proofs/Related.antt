-- Forms of both sides of a relation, and of the items of a set.
use Rattle.std.proofs.Common.{◌≡◌, ℕ, ◌==◌, ℤ, ◌≤ℤ◌, Bool, true, false, ◌||◌, Option, Some, None, refl, sym, ap, ◌∙◌, true≢false, if◌then◌else◌, arith, eq-eqb}
use Rattle.std.specs.Int.{int_min, int_max}
use Rattle.std.proofs.lemmas.Bool.{and_parts, not-true, eqb-true}
use Rattle.std.proofs.lemmas.Option.{same_Some}
use Rattle.std.proofs.lemmas.Int.{ints, clamps}
use Rattle.cb_lex.specs.declared.token.Place.{Place}
use Rattle.cb_lex.specs.declared.raw.sign.RawRelation.{RawRelation}
use Rattle.cb_lex.specs.declared.raw.sign.RawRelation.TheVariants as relation
use Rattle.cb_term.specs.declared.sign.RelSign.TheVariants.{Equal, Less, AtMost, Member, Subset}
use Rattle.cb_spec.specs.Forms.{Form, Number, Truth, Element, Numbers, TruthSet, Elements, Empty, hull, joined_form, single, is_some_form, with_both, may_relate}
use Rattle.cb_forms.specs.Kinds.{is_number, is_set, is_item, may_hold, wrong, side_fault, with_item, suits}
use Rattle.cb_typing.specs.Reflects.{IsProper}
use Rattle.cb_typing.proofs.Clean.{Clean, is_good}
use Rattle.cb_typing.proofs.Numbers.{false_lt}
use Rattle.cb_typing.proofs.Signs.{by_number, right_of, set_pair}

-- ---- relations

same_swap : (j k : ℕ) (f g : Form) → is_some_form (if j == k then Some f else None) ≡ true → is_some_form (if k == j then Some g else None) ≡ true
same_swap j k f g e = by (j == k) refl e
  where
    by : (b : Bool) → (j == k) ≡ b → is_some_form (if b then Some f else None) ≡ true → is_some_form (if k == j then Some g else None) ≡ true
    by true q e = rw (eq-eqb k j (sym (eqb-true j k q))) refl
    by false q e = absurd (true≢false (sym e))

joined_swap : (f g : Form) → is_some_form (joined_form f g) ≡ true → is_some_form (joined_form g f) ≡ true
joined_swap (Elements j) (Elements k) e = same_swap j k (Elements j) (Elements k) e
joined_swap (Elements j) Empty e = e
joined_swap (Elements j) g e = e
joined_swap (Numbers a b) (Numbers c d) e = refl
joined_swap (Numbers a b) Empty e = e
joined_swap (Numbers a b) g e = e
joined_swap TruthSet TruthSet e = e
joined_swap TruthSet Empty e = e
joined_swap TruthSet g e = e
joined_swap Empty Empty e = e
joined_swap Empty (Numbers a b) e = e
joined_swap Empty TruthSet e = e
joined_swap Empty (Elements k) e = e
joined_swap Empty g e = e
joined_swap f g e = absurd (true≢false (sym e))

member_swap : (o : Option Form) (g : Form) → is_some_form (with_both (Some g) o joined_form) ≡ true → is_some_form (with_both o (Some g) joined_form) ≡ true
member_swap None g e = e
member_swap (Some s) g e = joined_swap g s e

member_relates : (f g : Form) (pa pb : Place) → Clean (wrong is_item (Some f) pa) → (may_hold (Some f) (Some g)) ≡ true → may_relate Member f g ≡ true
member_relates f g pa pb h e =
    let q = and_parts (is_set g) (is_set f || is_some_form (with_both (Some g) (single f) joined_form)) e in
    let no : is_set f ≡ false = not-true (is_set f) (right_of is_item f pa h) in
    let r : is_some_form (with_both (Some g) (single f) joined_form) ≡ true = rw no at q.1 in
    member_swap (single f) g r

number_relates : (f g : Form) (pa pb : Place) → Clean (wrong is_number (Some f) pa) → Clean (wrong is_number (Some g) pb) →
    (may_relate Less f g ≡ true) × (may_relate AtMost f g ≡ true) × (may_relate Less g f ≡ true) × (may_relate AtMost g f ≡ true)
number_relates f g pa pb h k =
    by_number (λ f. (may_relate Less f g ≡ true) × (may_relate AtMost f g ≡ true) × (may_relate Less g f ≡ true) × (may_relate AtMost g f ≡ true))
    (λ a b. by_number (λ g. (may_relate Less (Number a b) g ≡ true) × (may_relate AtMost (Number a b) g ≡ true) × (may_relate Less g (Number a b) ≡ true) × (may_relate AtMost g (Number a b) ≡ true))
    (λ c d. (refl, refl, refl, refl)) g (right_of is_number g pb k)) f (right_of is_number f pa h)

-- the sides may be related as the normal form relates them
abbrev pub Relates : RawRelation → Form → Form → Type 0
Relates relation.Equal f g = may_relate Equal f g ≡ true
Relates relation.Unequal f g = may_relate Equal f g ≡ true
Relates relation.Less f g = may_relate Less f g ≡ true
Relates relation.AtMost f g = may_relate AtMost f g ≡ true
Relates relation.Greater f g = may_relate Less g f ≡ true
Relates relation.AtLeast f g = may_relate AtMost g f ≡ true
Relates relation.Member f g = may_relate Member f g ≡ true
Relates relation.NotMember f g = may_relate Member f g ≡ true
Relates relation.Subset f g = may_relate Subset f g ≡ true

pub relates : (r : RawRelation) (f g : Form) (pa pb : Place) → Clean (side_fault r (Some f) pa (Some g) pb) → Relates r f g
relates relation.Equal f g pa pb h = is_good _ 5 pb h
relates relation.Unequal f g pa pb h = is_good _ 5 pb h
relates relation.Less f g pa pb h = (number_relates f g pa pb h.0 h.1).0
relates relation.AtMost f g pa pb h = (number_relates f g pa pb h.0 h.1).1
relates relation.Greater f g pa pb h = (number_relates f g pa pb h.0 h.1).2
relates relation.AtLeast f g pa pb h = (number_relates f g pa pb h.0 h.1).3
relates relation.Member f g pa pb h = member_relates f g pa pb h.0 (is_good _ 5 pb h.1)
relates relation.NotMember f g pa pb h = member_relates f g pa pb h.0 (is_good _ 5 pb h.1)
relates relation.Subset f g pa pb h = set_pair f g (right_of is_set f pa h.0) (is_good _ 5 pb h.1)

-- ---- listed sets

-- an interval of numbers has a number
abbrev pub IsFull : Form → Type 0
IsFull (Numbers lo hi) = lo ≤ℤ hi
IsFull f = Unit {0}

hull_full : (a b c d : ℤ) → a ≤ℤ b → c ≤ℤ d → hull a b c d ≡ Numbers (int_min a c) (int_max b d)
hull_full a b c d p q = rw (false_lt b a p, false_lt d c q) refl

-- items go on to a set: joined with the item and then with the rest is joined with both
pub record Onward (f s r k : Form) : Type 0 where
  pub both : Form
  pub joins : joined_form s r ≡ Some both
  pub all : joined_form f both ≡ Some k
  pub full : IsFull both

module _ (a b : ℤ) (p : a ≤ℤ b) where
  onward_numbers : (f r d k : Form) → IsFull f → IsFull r → joined_form f (Numbers a b) ≡ Some d → joined_form d r ≡ Some k → Onward f (Numbers a b) r k
  onward_numbers Empty (Numbers u v) d k x y e h =
      let q = hull_full a b u v p y in
      let i : d ≡ Numbers a b = cc in
      let j : joined_form (Numbers a b) (Numbers u v) ≡ Some k = rw i at h in
      record { both = Numbers (int_min a u) (int_max b v); joins = ap Some q; all = sym (ap Some q) ∙ j; full = omega (arith, ints, clamps, p, y) }
  onward_numbers Empty Empty d k x y e h =
      let i : d ≡ Numbers a b = cc in
      let j : joined_form (Numbers a b) Empty ≡ Some k = rw i at h in
      record { both = Numbers a b; joins = refl; all = j; full = p }
  onward_numbers (Numbers m n) (Numbers u v) d k x y e h =
      let q = hull_full a b u v p y in
      let i : d ≡ Numbers (int_min m a) (int_max n b) = sym (same_Some _ _ e) ∙ hull_full m n a b x p in
      let t : int_min m a ≤ℤ int_max n b = omega (arith, ints, clamps, p, x) in
      let w : int_min a u ≤ℤ int_max b v = omega (arith, ints, clamps, p, y) in
      let j : hull (int_min m a) (int_max n b) u v ≡ k = same_Some _ _ (rw i at h) in
      let low : int_min (int_min m a) u ≡ int_min m (int_min a u) = omega (arith, ints, clamps) in
      let high : int_max (int_max n b) v ≡ int_max n (int_max b v) = omega (arith, ints, clamps) in
      let g : hull m n (int_min a u) (int_max b v) ≡ k =
      hull_full m n (int_min a u) (int_max b v) x w ∙ rw (← low, ← high) refl ∙ sym (hull_full (int_min m a) (int_max n b) u v t y) ∙ j in
      record { both = Numbers (int_min a u) (int_max b v); joins = ap Some q; all = ap Some g; full = w }
  onward_numbers (Numbers m n) Empty d k x y e h =
      let i : d ≡ Numbers (int_min m a) (int_max n b) = sym (same_Some _ _ e) ∙ hull_full m n a b x p in
      let j : Some (Numbers (int_min m a) (int_max n b)) ≡ Some k = rw i at h in
      record { both = Numbers a b; joins = refl; all = ap Some (hull_full m n a b x p) ∙ j; full = p }
  onward_numbers Empty r d k x y e h =
      let i : d ≡ Numbers a b = cc in
      let j : None ≡ Some k = rw i at h in
      let no : ⊥ = cc in
      absurd no
  onward_numbers (Numbers m n) r d k x y e h =
      let i : d ≡ Numbers (int_min m a) (int_max n b) = sym (same_Some _ _ e) ∙ hull_full m n a b x p in
      let j : None ≡ Some k = rw i at h in
      let no : ⊥ = cc in
      absurd no
  onward_numbers f r d k x y e h = let no : ⊥ = cc in absurd no

truths_are : (r k : Form) → joined_form TruthSet r ≡ Some k → k ≡ TruthSet
truths_are TruthSet k e = cc
truths_are Empty k e = cc
truths_are r k e = let no : ⊥ = cc in absurd no

truths_with : (r k : Form) → joined_form TruthSet r ≡ Some k → joined_form TruthSet r ≡ Some TruthSet
truths_with r k e = e ∙ ap Some (truths_are r k e)

onward_truths : (f r d k : Form) → joined_form f TruthSet ≡ Some d → joined_form d r ≡ Some k → Onward f TruthSet r k
onward_truths Empty r d k e h = let i : d ≡ TruthSet = cc in let j : joined_form TruthSet r ≡ Some k = rw i at h in record { both = TruthSet; joins = truths_with r k j; all = ap Some (sym (truths_are r k j)); full = tt }
onward_truths TruthSet r d k e h = let i : d ≡ TruthSet = cc in let j : joined_form TruthSet r ≡ Some k = rw i at h in record { both = TruthSet; joins = truths_with r k j; all = ap Some (sym (truths_are r k j)); full = tt }
onward_truths f r d k e h = let no : ⊥ = cc in absurd no

some_only : (b : Bool) (f g : Form) → (if b then Some f else None) ≡ Some g → (b ≡ true) × (f ≡ g)
some_only true f g e = (refl, same_Some f g e)
some_only false f g e = let no : ⊥ = cc in absurd no

elements_are : (j : ℕ) (r k : Form) → joined_form (Elements j) r ≡ Some k → k ≡ Elements j
elements_are j (Elements i) k e = sym ((some_only (j == i) (Elements j) k e).1)
elements_are j Empty k e = cc
elements_are j r k e = let no : ⊥ = cc in absurd no

onward_elements : (j : ℕ) (f r d k : Form) → joined_form f (Elements j) ≡ Some d → joined_form d r ≡ Some k → Onward f (Elements j) r k
onward_elements j Empty r d k e h =
    let i : d ≡ Elements j = cc in
    let q : joined_form (Elements j) r ≡ Some k = rw i at h in
    let w = elements_are j r k q in
    record { both = Elements j; joins = q ∙ ap Some w; all = ap Some (sym w); full = tt }
onward_elements j (Elements n) r d k e h =
    let y = some_only (n == j) (Elements n) d e in
    let z : n ≡ j = eqb-true n j y.0 in
    let i : d ≡ Elements j = sym y.1 ∙ ap Elements z in
    let q : joined_form (Elements j) r ≡ Some k = rw i at h in
    let w = elements_are j r k q in
    record { both = Elements j; joins = q ∙ ap Some w; all = e ∙ ap Some (i ∙ sym w); full = tt }
onward_elements j f r d k e h = let no : ⊥ = cc in absurd no

-- the item's form, as a set of one item, is full where its interval has a number
pub single_full : (f s : Form) → IsProper f → single f ≡ Some s → IsFull s
single_full (Number a b) s x e = let i : s ≡ Numbers a b = cc in rw i x
single_full Truth s x e = let i : s ≡ TruthSet = cc in rw i tt
single_full (Element k) s x e = let i : s ≡ Elements k = cc in rw i tt
single_full f s x e = let no : ⊥ = cc in absurd no

pub onward : (a f s r d k : Form) → IsProper a → single a ≡ Some s → IsFull f → IsFull r → joined_form f s ≡ Some d → joined_form d r ≡ Some k → Onward f s r k
onward (Number a b) f s r d k x i y z e h =
    let q : s ≡ Numbers a b = cc in
    let e' : joined_form f (Numbers a b) ≡ Some d = rw q at e in
    rw q (onward_numbers a b x f r d k y z e' h)
onward Truth f s r d k x i y z e h =
    let q : s ≡ TruthSet = cc in
    let e' : joined_form f TruthSet ≡ Some d = rw q at e in
    rw q (onward_truths f r d k e' h)
onward (Element j) f s r d k x i y z e h =
    let q : s ≡ Elements j = cc in
    let e' : joined_form f (Elements j) ≡ Some d = rw q at e in
    rw q (onward_elements j f r d k e' h)
onward a f s r d k x i y z e h = let no : ⊥ = cc in absurd no

-- a set with one more item is full
pub joined_full : (f g d : Form) → IsFull f → IsFull g → joined_form f g ≡ Some d → IsFull d
joined_full (Numbers a b) (Numbers m n) d x y e =
    let i : d ≡ Numbers (int_min a m) (int_max b n) = sym (same_Some _ _ e) ∙ hull_full a b m n x y in
    let w : int_min a m ≤ℤ int_max b n = omega (arith, ints, clamps, x, y) in
    rw i w
joined_full Empty (Numbers m n) d x y e = let i : d ≡ Numbers m n = cc in rw i y
joined_full (Numbers a b) Empty d x y e = let i : d ≡ Numbers a b = cc in rw i x
joined_full (Elements j) (Elements k) d x y e = rw (sym ((some_only (j == k) (Elements j) d e).1)) tt
joined_full (Elements j) Empty d x y e = let i : d ≡ Elements j = cc in rw i tt
joined_full Empty (Elements k) d x y e = let i : d ≡ Elements k = cc in rw i tt
joined_full Empty Empty d x y e = let i : d ≡ Empty = cc in rw i tt
joined_full Empty TruthSet d x y e = let i : d ≡ TruthSet = cc in rw i tt
joined_full TruthSet Empty d x y e = let i : d ≡ TruthSet = cc in rw i tt
joined_full TruthSet TruthSet d x y e = let i : d ≡ TruthSet = cc in rw i tt
joined_full f g d x y e = let no : ⊥ = cc in absurd no

-- one more item that suits: what the set is then
pub record Suits (done item : Form) : Type 0 where
  pub one : Form
  pub is_single : single item ≡ Some one
  pub next : Form
  pub joins : joined_form done one ≡ Some next
  pub so : with_item done (Some item) ≡ next

pub suits_so : (done item : Form) → suits done (Some item) ≡ true → Suits done item
suits_so done item e = by (single item) refl ((and_parts (is_item item) (is_some_form (with_both (Some done) (single item) joined_form)) e).1)
  where
    after : (s : Form) (o : Option Form) → single item ≡ Some s → joined_form done s ≡ o → is_some_form o ≡ true → Suits done item
    after s None i j e = absurd (true≢false (sym e))
    after s (Some n) i j e = record { one = s; is_single = i; next = n; joins = j; so = rw i (rw j refl) }

    by : (o : Option Form) → single item ≡ o → is_some_form (with_both (Some done) o joined_form) ≡ true → Suits done item
    by None i e = absurd (true≢false (sym e))
    by (Some s) i e = after s (joined_form done s) i refl e
