-- Places of lists, and names that stand in one part of a list alone.
use Rattle.std.proofs.Common.{◌≡◌, ℕ, zero, suc, ◌<◌, ◌≤◌, Bool, true, false, ◌||◌, List, [], ◌∷◌, ◌++◌, map, flat_map, length, get_or, Contains, slice_set, Option, Some, None, IsSomeAnd, ◌⊎◌, inl, inr, refl, sym, ap, ◌∙◌, subst, true≢false, arith}
use Rattle.std.proofs.lemmas.Option.{same_Some, slice_get_within}
use Rattle.std.proofs.lemmas.Bool.{false_from_ne_true}
use Rattle.cb_term.specs.declared.name.Name.{Name}
use Rattle.cb_term.specs.Names.{same_name}
use Rattle.cb_term.proofs.FreeLemmas.{or_left}
use Rattle.cb_spec.specs.Bound.{is_among}
use Rattle.cb_spec.specs.States.{IsAt}
use Rattle.cb_spec.specs.Typed.{NumbersDiffer}
use Rattle.cb_spec.specs.TypedProcesses.{AreNew}
use Rattle.cb_typed.proofs.Naming.{new_apart, new_back, among_back, among_at}

-- ---- options

pub has_at : {A : Type 0} (o : Option A) (P : A → Type 0) (a : A) → IsSomeAnd o P → o ≡ Some a → P a
has_at None P a h e = absurd h
has_at (Some b) P a h e = subst P (same_Some b a e) h

pub some_map : {A : Type 0} (o : Option A) (P Q : A → Type 0) → IsSomeAnd o P → ((a : A) → o ≡ Some a → P a → Q a) → IsSomeAnd o Q
some_map None P Q h f = absurd h
some_map (Some a) P Q h f = f a refl h

pub some_both : {A : Type 0} (o : Option A) (P Q R : A → Type 0) → IsSomeAnd o P → IsSomeAnd o Q → ((a : A) → o ≡ Some a → P a → Q a → R a) → IsSomeAnd o R
some_both None P Q R h k f = absurd h
some_both (Some a) P Q R h k f = f a refl h k

-- ---- places

pub two_at : {A : Type 0} (xs : List A) (k : ℕ) (a b : A) → IsAt xs k a → IsAt xs k b → a ≡ b
two_at xs k a b e f = same_Some a b (sym e ∙ f)

pub there : {A : Type 0} (xs : List A) (k : ℕ) → k < length xs → (a : A) × IsAt xs k a
there [] k l = absurd (omega (arith, l))
there (x ∷ xs) zero l = (x, refl)
there (x ∷ xs) (suc k) l = there xs k (omega (arith, l))

pub at_below : {A : Type 0} (xs : List A) (k : ℕ) (a : A) → IsAt xs k a → k < length xs
at_below xs k a e = slice_get_within xs k a e

pub contains_at : {A : Type 0} (xs : List A) (x : A) → Contains xs x → (j : ℕ) × IsAt xs j x
contains_at {A = A} xs x c = by xs c.0 c.1 c.2
  where
    by : (ys : List A) (k : ℕ) → k < length ys → get_or ys k x ≡ x → (j : ℕ) × IsAt ys j x
    by [] k lt e = absurd (omega (arith, lt))
    by (y ∷ ys) zero lt e = (0, ap Some e)
    by (y ∷ ys) (suc k) lt e = let r = by ys k (omega (arith, lt)) e in (suc r.0, r.1)

-- the places of a list after a change at one
pub at_set : {A : Type 0} (xs : List A) (i : ℕ) (a : A) (j : ℕ) (b : A) → IsAt (slice_set xs i a) j b → ((j ≡ i) × (b ≡ a)) ⊎ ((j ≡ i → ⊥) × IsAt xs j b)
at_set [] i a j b e = cc
at_set (x ∷ xs) zero a zero b e = inl (refl, sym (same_Some a b e))
at_set (x ∷ xs) zero a (suc j) b e = inr ((λ h. omega (arith, h)), e)
at_set (x ∷ xs) (suc i) a zero b e = inr ((λ h. omega (arith, h)), e)
at_set (x ∷ xs) (suc i) a (suc j) b e = next (at_set xs i a j b e)
  where
    next : ((j ≡ i) × (b ≡ a)) ⊎ ((j ≡ i → ⊥) × IsAt xs j b) → ((suc j ≡ suc i) × (b ≡ a)) ⊎ ((suc j ≡ suc i → ⊥) × IsAt xs j b)
    next (inl p) = inl (ap suc p.0, p.1)
    next (inr p) = inr ((λ h. p.0 (omega (arith, h))), p.1)

pub at_map : {A B : Type 0} (f : A → B) (xs : List A) (i : ℕ) (b : B) → IsAt (map f xs) i b → (a : A) × IsAt xs i a × (b ≡ f a)
at_map f [] i b e = cc
at_map f (x ∷ xs) zero b e = (x, refl, sym (same_Some (f x) b e))
at_map f (x ∷ xs) (suc i) b e = at_map f xs i b e

pub set_length : {A : Type 0} (xs : List A) (i : ℕ) (a : A) → length (slice_set xs i a) ≡ length xs
set_length [] i a = refl
set_length (x ∷ xs) zero a = refl
set_length (x ∷ xs) (suc i) a = ap suc (set_length xs i a)

pub map_length : {A B : Type 0} (f : A → B) (xs : List A) → length (map f xs) ≡ length xs
map_length f [] = refl
map_length f (x ∷ xs) = ap suc (map_length f xs)

-- ---- numbers of which none stands twice

in_front : {A : Type 0} (xs ys : List A) (k : ℕ) (a : A) → IsAt xs k a → IsAt (xs ++ ys) k a
in_front [] ys k a e = cc
in_front (x ∷ xs) ys zero a e = e
in_front (x ∷ xs) ys (suc k) a e = in_front xs ys k a e

behind : {A : Type 0} (xs ys : List A) (k : ℕ) (a : A) → IsAt ys k a → (j : ℕ) × (length xs ≤ j) × IsAt (xs ++ ys) j a
behind [] ys k a e = (k, omega arith, e)
behind (x ∷ xs) ys k a e = let r = behind xs ys k a e in (suc r.0, omega (arith, r.1), r.2)

different_rest : (x : ℕ) (xs : List ℕ) → NumbersDiffer (x ∷ xs) → NumbersDiffer xs
different_rest x xs d i j k e h = let s = d (suc i) (suc j) k e h in omega (arith, s)

different_back : (xs ys : List ℕ) → NumbersDiffer (xs ++ ys) → NumbersDiffer ys
different_back [] ys d = d
different_back (x ∷ xs) ys d = different_back xs ys (different_rest x (xs ++ ys) d)

different_apart : (xs ys : List ℕ) (k : ℕ) → NumbersDiffer (xs ++ ys) → (i : ℕ) → IsAt xs i k → (j : ℕ) → IsAt ys j k → ⊥
different_apart xs ys k d i e j h =
    let r = behind xs ys j k h in
    let s : i ≡ r.0 = d i r.0 k (in_front xs ys i k e) r.2 in
    let l = slice_get_within xs i k e in
    let m = r.1 in
    omega (arith, s, m, l)

in_part : {A : Type 0} (f : A → List ℕ) (parts : List A) (b : ℕ) (y : A) (i k : ℕ) → IsAt parts b y → IsAt (f y) i k → (j : ℕ) × IsAt (flat_map f parts) j k
in_part f [] b y i k e h = cc
in_part f (z ∷ zs) zero y i k e h = (i, in_front (f z) (flat_map f zs) i k (subst (λ w. IsAt (f w) i k) (sym (same_Some z y e)) h))
in_part f (z ∷ zs) (suc b) y i k e h =
    let r = in_part f zs b y i k e h in
    let s = behind (f z) (flat_map f zs) r.0 k r.1 in
    (s.0, s.2)

-- a number that stands in two parts stands in one
pub one_part : {A : Type 0} (f : A → List ℕ) (parts : List A) → NumbersDiffer (flat_map f parts) → (a b : ℕ) (x y : A) (i j k : ℕ) →
    IsAt parts a x → IsAt parts b y → IsAt (f x) i k → IsAt (f y) j k → a ≡ b
one_part f [] d a b x y i j k e h p q = cc
one_part f (z ∷ zs) d zero zero x y i j k e h p q = refl
one_part f (z ∷ zs) d zero (suc b) x y i j k e h p q =
    let r = in_part f zs b y j k h q in
    absurd (different_apart (f z) (flat_map f zs) k d i (subst (λ w. IsAt (f w) i k) (sym (same_Some z x e)) p) r.0 r.1)
one_part f (z ∷ zs) d (suc a) zero x y i j k e h p q =
    let r = in_part f zs a x i k e p in
    absurd (different_apart (f z) (flat_map f zs) k d j (subst (λ w. IsAt (f w) j k) (sym (same_Some z y h)) q) r.0 r.1)
one_part f (z ∷ zs) d (suc a) (suc b) x y i j k e h p q = ap suc (one_part f zs (different_back (f z) (flat_map f zs) d) a b x y i j k e h p q)

-- ---- names of which none stands twice

new_parts : (taken xs ys : List Name) → AreNew taken (xs ++ ys) → (n : Name) → is_among n xs ≡ true → is_among n ys ≡ false
new_parts taken [] ys d n e = cc
new_parts taken (x ∷ xs) ys d n e = by (same_name n x) refl e (new_parts (x ∷ taken) xs ys d.1 n)
  where
    by : (b : Bool) → same_name n x ≡ b → (b || is_among n xs) ≡ true → (is_among n xs ≡ true → is_among n ys ≡ false) → is_among n ys ≡ false
    by true s e r = false_from_ne_true (is_among n ys) (λ t.
        true≢false (sym (among_back n xs ys t) ∙ new_apart (x ∷ taken) (xs ++ ys) d.1 n (or_left (same_name n x) (is_among n taken) s)))
    by false s e r = r e

-- a name that stands in two parts stands in one
pub one_new : {A : Type 0} (f : A → List Name) (parts : List A) (taken : List Name) → AreNew taken (flat_map f parts) → (a b : ℕ) (x y : A) (n : Name) →
    IsAt parts a x → IsAt parts b y → is_among n (f x) ≡ true → is_among n (f y) ≡ true → a ≡ b
one_new f [] taken d a b x y n e h p q = cc
one_new f (z ∷ zs) taken d zero zero x y n e h p q = refl
one_new f (z ∷ zs) taken d zero (suc b) x y n e h p q =
    absurd (true≢false (sym (among_at f zs b y n h q) ∙ new_parts taken (f z) (flat_map f zs) d n (subst (λ w. is_among n (f w) ≡ true) (sym (same_Some z x e)) p)))
one_new f (z ∷ zs) taken d (suc a) zero x y n e h p q =
    absurd (true≢false (sym (among_at f zs a x n e p) ∙ new_parts taken (f z) (flat_map f zs) d n (subst (λ w. is_among n (f w) ≡ true) (sym (same_Some z y h)) q)))
one_new f (z ∷ zs) taken d (suc a) (suc b) x y n e h p q =
    let r = new_back taken (f z) (flat_map f zs) d in
    ap suc (one_new f zs r.0 r.1 a b x y n e h p q)
