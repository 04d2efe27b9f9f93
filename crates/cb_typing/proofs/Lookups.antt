-- Names in a list of names, and in what typed terms have of names.
use Rattle.std.proofs.Common.{◌⊎◌, inl, inr, Option, is_some, sym, ◌≡◌, ℕ, suc, Bool, true, false, ◌||◌, List, [], ◌∷◌, ◌++◌, length, Some, None, bytes_eq, refl, ap, ◌∙◌, if◌then◌else◌}
use Rattle.std.proofs.lemmas.Slice.Eq.{bytes_eq-Decides}
use Rattle.std.proofs.lemmas.Option.{same_Some}
use Rattle.cb_term.specs.declared.name.Name.{Name}
use Rattle.cb_term.specs.Names.{same_name}
use Rattle.cb_spec.specs.Bound.{is_among}
use Rattle.cb_forms.specs.Find.{found, spelled_again, inside, free_spelling, beside}

pub bytes_tell : (x y : List ℕ) → bytes_eq x y ≡ true → x ≡ y
bytes_tell x y e = (bytes_eq-Decides x y).0 e

pub bytes_self : (x : List ℕ) → bytes_eq x x ≡ true
bytes_self x = (bytes_eq-Decides x x).1 refl

module _ {M : Type 0} where
  -- a name that is there stays
  pub found_front : (x : List ℕ) (m : M) (w es : List (List ℕ × M)) → found x w ≡ Some m → found x (w ++ es) ≡ Some m
  found_front x m [] es h = cc
  found_front x m (e ∷ w) es h = by (bytes_eq x e.0) h (found_front x m w es)
    where
      by : (b : Bool) → (if b then Some e.1 else found x w) ≡ Some m → (found x w ≡ Some m → found x (w ++ es) ≡ Some m) →
          (if b then Some e.1 else found x (w ++ es)) ≡ Some m
      by true h r = h
      by false h r = r h

  pub found_back : (x : List ℕ) (w es : List (List ℕ × M)) → found x w ≡ None → found x (w ++ es) ≡ found x es
  found_back x [] es h = refl
  found_back x (e ∷ w) es h = by (bytes_eq x e.0) h (found_back x w es)
    where
      by : (b : Bool) → (if b then Some e.1 else found x w) ≡ None → (found x w ≡ None → found x (w ++ es) ≡ found x es) →
          (if b then Some e.1 else found x (w ++ es)) ≡ found x es
      by true h r = cc
      by false h r = r h

  pub inside_new : (x : List ℕ) (m : M) (w : List (List ℕ × M)) → found x w ≡ None → inside x m w ≡ w ++ (x, m) ∷ []
  inside_new x m w h = rw h refl

  pub beside_is : (x : List ℕ) (m : M) (w : List (List ℕ × M)) → found x w ≡ None → beside x m w ≡ inside x m w
  unfolding free_spelling
  beside_is x m w h = ap (λ o. inside (if is_some o then spelled_again x else x) m w) h

  pub beside_new : (x : List ℕ) (m : M) (w : List (List ℕ × M)) → found x w ≡ None → beside x m w ≡ w ++ (x, m) ∷ []
  beside_new x m w h = beside_is x m w h ∙ inside_new x m w h

  pub found_last : (x : List ℕ) (m : M) (w : List (List ℕ × M)) → found x w ≡ None → found x (w ++ (x, m) ∷ []) ≡ Some m
  found_last x m w h = found_back x w ((x, m) ∷ []) h ∙ rw (bytes_self x) refl

  -- what is found after a name is added where it is not there already
  pub inside_cases : (x y : List ℕ) (k c : M) (w : List (List ℕ × M)) → found x (inside y k w) ≡ Some c → (found x w ≡ Some c) ⊎ ((x ≡ y) × (k ≡ c))
  inside_cases x y k c w e = by (is_some (found y w)) e
    where
      last : (b : Bool) → bytes_eq x y ≡ b → (if b then Some k else None) ≡ Some c → (x ≡ y) × (k ≡ c)
      last true q h = (bytes_tell x y q, same_Some k c h)
      last false q h = let no : ⊥ = cc in absurd no

      old : (o : Option M) → found x w ≡ o → found x (w ++ (y, k) ∷ []) ≡ Some c → (found x w ≡ Some c) ⊎ ((x ≡ y) × (k ≡ c))
      old (Some m) q h = let j : m ≡ c = same_Some m c (sym (found_front x m w ((y, k) ∷ []) q) ∙ h) in inl (q ∙ ap Some j)
      old None q h = inr (last (bytes_eq x y) refl (sym (found_back x w ((y, k) ∷ []) q) ∙ h))

      by : (b : Bool) → found x (if b then w else w ++ (y, k) ∷ []) ≡ Some c → (found x w ≡ Some c) ⊎ ((x ≡ y) × (k ≡ c))
      by true h = inl h
      by false h = old (found x w) refl h

  -- what another name stands for is as before
  pub found_other : (y x : List ℕ) (m : M) (w : List (List ℕ × M)) → bytes_eq y x ≡ false → found y (w ++ (x, m) ∷ []) ≡ found y w
  found_other y x m [] e = rw e refl
  found_other y x m (f ∷ w) e = ap (λ o. if bytes_eq y f.0 then Some f.1 else o) (found_other y x m w e)

pub length_last : {A : Type 0} (w : List A) (x : A) → length (w ++ x ∷ []) ≡ suc (length w)
length_last [] x = refl
length_last (y ∷ w) x = ap suc (length_last w x)

-- ---- lists of names

pub among_parts : (x : Name) (xs ys : List Name) → is_among x (xs ++ ys) ≡ (is_among x xs || is_among x ys)
among_parts x [] ys = refl
among_parts x (z ∷ xs) ys = by (same_name x z) (among_parts x xs ys)
  where
    by : (b : Bool) → is_among x (xs ++ ys) ≡ (is_among x xs || is_among x ys) → (b || is_among x (xs ++ ys)) ≡ ((b || is_among x xs) || is_among x ys)
    by true r = refl
    by false r = r
