-- The forms of signs' terms, as they are judged and as typed terms have them.
use Rattle.std.proofs.Common.{◌≡◌, ℕ, ◌==◌, ℤ, pos, ◌+ℤ◌, ◌-ℤ◌, ◌*ℤ◌, ◌≤ℤ◌, int_le, int_lt, Bool, true, false, not, ◌||◌, Option, Some, None, refl, sym, ap, subst, true≢false, if◌then◌else◌}
use Rattle.std.specs.Int.{int_min, int_max, int_div_euclid}
use Rattle.std.proofs.lemmas.Bool.{or_parts, and_parts, and_from}
use Rattle.cb_lex.specs.declared.token.Place.{Place}
use Rattle.cb_lex.specs.declared.raw.sign.RawOperator.{RawOperator}
use Rattle.cb_lex.specs.declared.raw.sign.RawOperator.TheVariants.{Plus, Minus, Times, Divide, Mod, UpTo, Union, Intersection}
use Rattle.cb_term.specs.declared.sign.RelSign.TheVariants.{Equal}
use Rattle.cb_term.specs.declared.sign.TermSign.TheVariants as sign
use Rattle.cb_spec.specs.Forms.{Form, Number, Truth, Element, Numbers, TruthSet, Elements, Empty, hull, joined_form, left_set, is_some_form, product, divides, bin_form, may_relate, IsSmall}
use Rattle.cb_spec.specs.TypedTerms.{Unless}
use Rattle.cb_forms.specs.declared.span.Span.{Span}
use Rattle.cb_forms.specs.Spans.{added, taken, scaled}
use Rattle.cb_forms.specs.Kinds.{number, is_number, is_set, is_number_or_set, set_form, is_positive, divided_by, rests_by, binary_form, wrong, fits, operand_fault, divisor_fault, size_fault}
use Rattle.cb_judge.specs.Judged.{size_unless, is_up_to}
use Rattle.cb_normal.specs.Normal.{sign_of}
use Rattle.cb_typing.specs.Reflects.{IsProper}
use Rattle.cb_typing.proofs.Clean.{Clean, not_bad, is_good}
use Rattle.cb_typing.proofs.Numbers.{keeps, lt_true, lt_false, le_false, true_le, added_exact, taken_exact, least_exact, least_greatest, sums, differences, quotients, rest_proper}

-- ---- forms by cases

pub by_number : (P : Form → Type 0) → ((a b : ℤ) → P (Number a b)) → (f : Form) → is_number f ≡ true → P f
by_number P h (Number a b) e = h a b
by_number P h Truth e = absurd (true≢false (sym e))
by_number P h (Element k) e = absurd (true≢false (sym e))
by_number P h (Numbers a b) e = absurd (true≢false (sym e))
by_number P h TruthSet e = absurd (true≢false (sym e))
by_number P h (Elements k) e = absurd (true≢false (sym e))
by_number P h Empty e = absurd (true≢false (sym e))

pub by_set : (P : Form → Type 0) → ((a b : ℤ) → P (Numbers a b)) → P TruthSet → ((k : ℕ) → P (Elements k)) → P Empty → (f : Form) → is_set f ≡ true → P f
by_set P n t k m (Numbers a b) e = n a b
by_set P n t k m TruthSet e = t
by_set P n t k m (Elements j) e = k j
by_set P n t k m Empty e = m
by_set P n t k m (Number a b) e = absurd (true≢false (sym e))
by_set P n t k m Truth e = absurd (true≢false (sym e))
by_set P n t k m (Element j) e = absurd (true≢false (sym e))

-- ---- sizes

pub size_small : (f : Form) (p : Place) → Clean (size_fault (Some f) p) → IsSmall f
size_small (Number lo hi) p h = keeps lo hi (not_bad _ 6 p h)
size_small (Numbers lo hi) p h = le_false _ _ (not_bad _ 12 p h)
size_small Truth p h = tt
size_small (Element k) p h = tt
size_small TruthSet p h = tt
size_small (Elements k) p h = tt
size_small Empty p h = tt

-- both have the form, which has a number, and is small where it has to be
pub record Agree (free : Bool) (judged typed : Option Form) : Type 0 where
  pub form : Form
  pub as_judged : judged ≡ Some form
  pub as_typed : typed ≡ Some form
  pub proper : IsProper form
  pub small : Unless free (IsSmall form)

pub small_unless : (free : Bool) (f : Form) (p : Place) → Clean (size_unless free (Some f) p) → Unless free (IsSmall f)
small_unless true f p h = tt
small_unless false f p h = size_small f p h

agree : (free : Bool) (j t : Option Form) (f : Form) (p : Place) → j ≡ Some f → t ≡ Some f → IsProper f → Clean (size_unless free j p) → Agree free j t
agree free j t f p e h i c = record {
  form = f;
  as_judged = e;
  as_typed = h;
  proper = i;
  small = small_unless free f p (subst (λ o. Clean (size_unless free o p)) e c);
}

-- ---- numbers

module _ (p : Place) (a b c d : ℤ) (x : a ≤ℤ b) (y : c ≤ℤ d) (s : IsSmall (Number a b)) (t : IsSmall (Number c d)) where
  abbrev left : Span
  left = record { lo = a; hi = b }

  abbrev right : Span
  right = record { lo = c; hi = d }

  sum : Clean (size_fault (Some (number (added left right))) p) → Agree false (Some (number (added left right))) (Some (Number (a +ℤ c) (b +ℤ d)))
  sum h = agree false _ _ (Number (a +ℤ c) (b +ℤ d)) p (ap (λ s. Some (number s)) (added_exact a b c d s t x y)) refl (sums a b c d x y) h

  difference : Clean (size_fault (Some (number (taken left right))) p) → Agree false (Some (number (taken left right))) (Some (Number (a -ℤ d) (b -ℤ c)))
  difference h = agree false _ _ (Number (a -ℤ d) (b -ℤ c)) p (ap (λ s. Some (number s)) (taken_exact a b c d s t x y)) refl (differences a b c d x y) h

product_agrees : (p : Place) (a b c d : ℤ) → Clean (size_fault (Some (number (scaled (record { lo = a; hi = b }) (record { lo = c; hi = d })))) p) →
    Agree false (Some (number (scaled (record { lo = a; hi = b }) (record { lo = c; hi = d })))) (Some (product a b c d))
product_agrees p a b c d h =
    let k = least_exact (a *ℤ c) (a *ℤ d) (b *ℤ c) (b *ℤ d) (size_small (number (scaled (record { lo = a; hi = b }) (record { lo = c; hi = d }))) p h) in
    agree false _ _ (product a b c d) p (rw (k.0, k.1, k.2, k.3) refl) refl (least_greatest (a *ℤ c) (a *ℤ d) (b *ℤ c) (b *ℤ d)) h

-- what a quotient and a rest need of their operands
Divides : ℤ → Option ℤ → Type 0
Divides a d = (not (is_positive d) || int_lt a (pos 0)) ≡ false

divides_so : (a n : ℤ) → is_positive (Some n) ≡ true → int_lt a (pos 0) ≡ false → divides a (Some n) ≡ true
divides_so a n e h = and_from (int_lt (pos 0) n) (int_le (pos 0) a) e (true_le (pos 0) a (lt_false a (pos 0) h))

not_false : (b : Bool) → not b ≡ false → b ≡ true
not_false true e = refl
not_false false e = absurd (true≢false e)

quotient_agrees : (p : Place) (a b c e : ℤ) (d l : Option ℤ) → a ≤ℤ b → ((n : ℤ) → d ≡ Some n → l ≡ Some n) →
    (not (is_positive d) || int_lt a (pos 0)) ≡ false → Clean (size_fault (Some (number (divided_by (record { lo = a; hi = b }) d))) p) →
    Agree false (Some (number (divided_by (record { lo = a; hi = b }) d))) (bin_form sign.Div l (Number a b) (Number c e))
quotient_agrees p a b c e None l x i t h = absurd (true≢false t)
quotient_agrees p a b c e (Some n) l x i t h =
    let q = or_parts (not (is_positive (Some n))) (int_lt a (pos 0)) t in
    let r : is_positive (Some n) ≡ true = not_false _ q.0 in
    let low : pos 0 ≤ℤ a = lt_false a (pos 0) q.1 in
    let yes : divides a (Some n) ≡ true = divides_so a n r q.1 in
    agree false _ _ (Number (int_div_euclid a n) (int_div_euclid b n)) p (rw r refl) (rw (i n refl) (rw yes refl)) (quotients a b n low x (lt_true (pos 0) n r)) h

rest_agrees : (p : Place) (a b c e : ℤ) (d l : Option ℤ) → ((n : ℤ) → d ≡ Some n → l ≡ Some n) →
    (not (is_positive d) || int_lt a (pos 0)) ≡ false → Clean (size_fault (Some (number (rests_by (record { lo = a; hi = b }) d))) p) →
    Agree false (Some (number (rests_by (record { lo = a; hi = b }) d))) (bin_form sign.Mod l (Number a b) (Number c e))
rest_agrees p a b c e None l i t h = absurd (true≢false t)
rest_agrees p a b c e (Some n) l i t h =
    let q = or_parts (not (is_positive (Some n))) (int_lt a (pos 0)) t in
    let r : is_positive (Some n) ≡ true = not_false _ q.0 in
    let yes : divides a (Some n) ≡ true = divides_so a n r q.1 in
    agree false _ _ (Number (pos 0) (n -ℤ pos 1)) p (rw r refl) (rw (i n refl) (rw yes refl)) (rest_proper n (lt_true (pos 0) n r)) h

-- ---- sets

abbrev ProperOr : Option Form → Type 0
ProperOr None = Unit {0}
ProperOr (Some f) = IsProper f

hull_proper : (a b c d : ℤ) → IsProper (hull a b c d)
hull_proper a b c d = by (int_lt b a) (int_lt d c)
  where
    by : (t u : Bool) → IsProper (if t then Numbers c d else (if u then Numbers a b else Numbers (int_min a c) (int_max b d)))
    by true u = tt
    by false true = tt
    by false false = tt

if_proper : (t : Bool) (f : Form) → IsProper f → ProperOr (if t then Some f else None)
if_proper true f h = h
if_proper false f h = tt

pub joined_proper : (f g : Form) → ProperOr (joined_form f g)
joined_proper (Numbers a b) (Numbers c d) = hull_proper a b c d
joined_proper (Numbers a b) Empty = tt
joined_proper (Numbers a b) g = tt
joined_proper TruthSet TruthSet = tt
joined_proper TruthSet Empty = tt
joined_proper TruthSet g = tt
joined_proper (Elements j) (Elements k) = if_proper (j == k) (Elements j) tt
joined_proper (Elements j) Empty = tt
joined_proper (Elements j) g = tt
joined_proper Empty Empty = tt
joined_proper Empty (Numbers a b) = tt
joined_proper Empty TruthSet = tt
joined_proper Empty (Elements k) = tt
joined_proper Empty g = tt
joined_proper f g = tt

pub left_proper : (f g : Form) → is_set f ≡ true → ProperOr (left_set f g)
left_proper Empty (Numbers a b) e = tt
left_proper Empty TruthSet e = tt
left_proper Empty (Elements k) e = tt
left_proper Empty g e = if_proper (is_some_form (joined_form Empty g)) Empty tt
left_proper (Numbers a b) g e = if_proper (is_some_form (joined_form (Numbers a b) g)) (Numbers a b) tt
left_proper TruthSet g e = if_proper (is_some_form (joined_form TruthSet g)) TruthSet tt
left_proper (Elements k) g e = if_proper (is_some_form (joined_form (Elements k) g)) (Elements k) tt
left_proper (Number a b) g e = absurd (true≢false (sym e))
left_proper Truth g e = absurd (true≢false (sym e))
left_proper (Element k) g e = absurd (true≢false (sym e))

some_if : (b : Bool) (f : Form) → b ≡ true → is_some_form (if b then Some f else None) ≡ true
some_if true f e = refl
some_if false f e = e

pub left_of_joined : (f g : Form) → is_some_form (joined_form f g) ≡ true → is_some_form (left_set f g) ≡ true
left_of_joined Empty (Numbers a b) e = refl
left_of_joined Empty TruthSet e = refl
left_of_joined Empty (Elements k) e = refl
left_of_joined f g e = some_if (is_some_form (joined_form f g)) f e

pub meets_number : (a b : ℤ) (f : Form) → may_relate Equal (Number a b) f ≡ true → is_number f ≡ true
meets_number a b (Number c d) e = refl
meets_number a b Truth e = e
meets_number a b (Element k) e = e
meets_number a b (Numbers c d) e = e
meets_number a b TruthSet e = e
meets_number a b (Elements k) e = e
meets_number a b Empty e = e

pub meets_set : (f g : Form) → is_set f ≡ true → may_relate Equal f g ≡ true → is_some_form (joined_form f g) ≡ true
meets_set f g s e = by_set (λ f. may_relate Equal f g ≡ true → is_some_form (joined_form f g) ≡ true) (λ a b e. e) (λ e. e) (λ k e. e) (λ e. e) f s e

set_agrees : (free : Bool) (p : Place) (g : Form → Form → Option Form) (a b : Form) → is_set a ≡ true → is_some_form (g a b) ≡ true → ProperOr (g a b) →
    Clean (size_unless free (set_form g (Some a) (Some b)) p) → Agree free (set_form g (Some a) (Some b)) (g a b)
set_agrees free p g a b s e i h = by (g a b) refl e i
  where
    by : (o : Option Form) → g a b ≡ o → is_some_form o ≡ true → ProperOr o → Agree free (set_form g (Some a) (Some b)) (g a b)
    by None q e i = absurd (true≢false (sym e))
    by (Some f) q e i = agree free _ _ f p (rw (s, q) refl) q i h

-- ---- the signs

-- the operand that has a form is as it has to be
pub right_of : (test : Form → Bool) (f : Form) (p : Place) → Clean (wrong test (Some f) p) → test f ≡ true
right_of test f p h = is_good (test f) 5 p h

-- both are sets of one kind
pub set_pair : (a b : Form) → is_set a ≡ true → fits is_set (Some a) (Some b) ≡ true → is_some_form (joined_form a b) ≡ true
set_pair a b s e =
    let q = and_parts (is_set b) (not (is_set a) || may_relate Equal a b) e in
    let m : may_relate Equal a b ≡ true = rw s at q.1 in
    meets_set a b s m

pub unfree : (free : Bool) → free ≡ false → (j t : Option Form) (p : Place) → (Clean (size_fault j p) → Agree false j t) → Clean (size_unless free j p) → Agree free j t
unfree free e j t p k h = subst (λ b. Clean (size_unless b j p) → Agree b j t) (sym e) k h

-- `d` is the literal that is judged, and `l` that of the typed term
module _ (free : Bool) (d l : Option ℤ) (i : (n : ℤ) → d ≡ Some n → l ≡ Some n) (p : Place) where
  abbrev Fine : RawOperator → Form → Form → Type 0
  Fine o f g = IsProper f → IsSmall f → IsProper g → IsSmall g → Clean (divisor_fault o (Some f) d p) →
      Clean (size_unless free (binary_form o d (Some f) (Some g)) p) → Agree free (binary_form o d (Some f) (Some g)) (bin_form (sign_of o) l f g)

  of_numbers : (o : RawOperator) → ((a b c e : ℤ) → Fine o (Number a b) (Number c e)) → (f g : Form) → is_number f ≡ true → is_number g ≡ true → Fine o f g
  of_numbers o h f g na nb = by_number (λ f. Fine o f g) (λ a b. by_number (λ g. Fine o (Number a b) g) (h a b) g nb) f na

  of_plus : free ≡ false → (a b c e : ℤ) → Fine Plus (Number a b) (Number c e)
  of_plus u a b c e x s y t v h = unfree free u _ _ p (sum p a b c e x y s t) h

  of_minus : free ≡ false → (a b c e : ℤ) → Fine Minus (Number a b) (Number c e)
  of_minus u a b c e x s y t v h = unfree free u _ _ p (difference p a b c e x y s t) h

  of_times : free ≡ false → (a b c e : ℤ) → Fine Times (Number a b) (Number c e)
  of_times u a b c e x s y t v h = unfree free u _ _ p (product_agrees p a b c e) h

  of_divide : free ≡ false → (a b c e : ℤ) → Fine Divide (Number a b) (Number c e)
  of_divide u a b c e x s y t v h = unfree free u _ _ p (quotient_agrees p a b c e d l x i (not_bad _ 7 p v)) h

  of_mod : free ≡ false → (a b c e : ℤ) → Fine Mod (Number a b) (Number c e)
  of_mod u a b c e x s y t v h = unfree free u _ _ p (rest_agrees p a b c e d l i (not_bad _ 7 p v)) h

  of_up_to : (a b c e : ℤ) → Fine UpTo (Number a b) (Number c e)
  of_up_to a b c e x s y t v h = agree free _ _ (Numbers a e) p refl refl tt h

  of_less : (f g : Form) → is_set f ≡ true → is_some_form (joined_form f g) ≡ true → Fine Minus f g
  of_less f g s e = by_set (λ f. is_some_form (joined_form f g) ≡ true → Fine Minus f g)
      (λ a b e x s y t v h. set_agrees free p left_set (Numbers a b) g refl (left_of_joined (Numbers a b) g e) (left_proper (Numbers a b) g refl) h)
      (λ e x s y t v h. set_agrees free p left_set TruthSet g refl (left_of_joined TruthSet g e) (left_proper TruthSet g refl) h)
      (λ k e x s y t v h. set_agrees free p left_set (Elements k) g refl (left_of_joined (Elements k) g e) (left_proper (Elements k) g refl) h)
      (λ e x s y t v h. set_agrees free p left_set Empty g refl (left_of_joined Empty g e) (left_proper Empty g refl) h)
      f s e

  number_or_set : (f g : Form) → free ≡ false → is_number_or_set f ≡ true → fits is_number_or_set (Some f) (Some g) ≡ true → Fine Minus f g
  number_or_set f g u e h =
      let q = and_parts (is_number_or_set g) (not (is_number_or_set f) || may_relate Equal f g) h in
      let m : may_relate Equal f g ≡ true = rw e at q.1 in
      by (is_number f) refl m
    where
      by : (b : Bool) → is_number f ≡ b → may_relate Equal f g ≡ true → Fine Minus f g
      by true n m = of_numbers Minus (of_minus u) f g n (by_number (λ f. may_relate Equal f g ≡ true → is_number g ≡ true) (λ a b. meets_number a b g) f n m)
      by false n m = let s : is_set f ≡ true = rw n at e in of_less f g s (meets_set f g s m)

  pub signs_agree : (o : RawOperator) → (is_up_to o ≡ false → free ≡ false) → (f g : Form) (pa pb : Place) → Clean (operand_fault o (Some f) pa (Some g) pb) → Fine o f g
  signs_agree Plus u f g pa pb h = of_numbers Plus (of_plus (u refl)) f g (right_of is_number f pa h.0) (right_of is_number g pb h.1)
  signs_agree Minus u f g pa pb h = number_or_set f g (u refl) (right_of is_number_or_set f pa h.0) (is_good _ 5 pb h.1)
  signs_agree Times u f g pa pb h = of_numbers Times (of_times (u refl)) f g (right_of is_number f pa h.0) (right_of is_number g pb h.1)
  signs_agree Divide u f g pa pb h = of_numbers Divide (of_divide (u refl)) f g (right_of is_number f pa h.0) (right_of is_number g pb h.1)
  signs_agree Mod u f g pa pb h = of_numbers Mod (of_mod (u refl)) f g (right_of is_number f pa h.0) (right_of is_number g pb h.1)
  signs_agree UpTo u f g pa pb h = of_numbers UpTo of_up_to f g (right_of is_number f pa h.0) (right_of is_number g pb h.1)
  signs_agree Union u f g pa pb h =
      let s = right_of is_set f pa h.0 in
      λ x sf y sg v k. set_agrees free p joined_form f g s (set_pair f g s (is_good _ 5 pb h.1)) (joined_proper f g) k
  signs_agree Intersection u f g pa pb h =
      let s = right_of is_set f pa h.0 in
      λ x sf y sg v k. set_agrees free p left_set f g s (left_of_joined f g (set_pair f g s (is_good _ 5 pb h.1))) (left_proper f g s) k
