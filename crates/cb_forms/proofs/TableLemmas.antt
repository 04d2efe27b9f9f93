-- The names of a map, seen as a list.
use Rattle.std.proofs.Common.{◌≡◌, ℕ, Bool, true, false, cond, List, [], ◌∷◌, ◌++◌, Some, None, Vec, bytes_eq, refl, ap, ◌∙◌, is_some, true≢false, ◌+◌, suc, zero, drop, slice_get, option_map, arith}
use Rattle.std.specs.declared.alloc.Global.{Global}
use Rattle.std.specs.Map.{lookup}
use Rattle.indexmap.specs.IndexMap.{insert_entry}
use Rattle.cb_forms.specs.Find.{found, inside, put, with_common, name_in}
use Rattle.cb_forms.specs.View.{entries_of}

module _ {M : Type 0} where
  pub found_view : (x : List ℕ) (es : List (Vec ℕ Global × M)) → lookup (λ k. bytes_eq x k.items) es ≡ found x (entries_of es)
  found_view x [] = refl
  found_view x (e ∷ es) = ap (λ r. cond (bytes_eq x e.0.items) (Some e.1) r) (found_view x es)

  pub insert_view : (x : List ℕ) (k : Vec ℕ Global) (m : M) (es : List (Vec ℕ Global × M)) → k.items ≡ x → is_some (found x (entries_of es)) ≡ false →
      entries_of (insert_entry (λ a b. bytes_eq a.items b.items) es k m) ≡ entries_of es ++ (x, m) ∷ []
  insert_view x k m [] e h = ap (λ y. (y, m) ∷ []) e
  insert_view x k m (f ∷ es) e h = by (bytes_eq x f.0.items) refl (insert_view x k m es e)
    where
      by : (b : Bool) → bytes_eq x f.0.items ≡ b →
          (is_some (found x (entries_of es)) ≡ false → entries_of (insert_entry (λ a b. bytes_eq a.items b.items) es k m) ≡ entries_of es ++ (x, m) ∷ []) →
          entries_of (insert_entry (λ a b. bytes_eq a.items b.items) (f ∷ es) k m) ≡ entries_of (f ∷ es) ++ (x, m) ∷ []
      by true p rest = absurd (true≢false (rw p at h))
      by false p rest = let q : bytes_eq k.items f.0.items ≡ false = ap (λ y. bytes_eq y f.0.items) e ∙ p in rw q (ap (λ r. (f.0.items, f.1) ∷ r) (rest (rw p at h)))

  pub put_view : (x : List ℕ) (k : Vec ℕ Global) (m : M) (es : List (Vec ℕ Global × M)) → k.items ≡ x →
      entries_of (insert_entry (λ a b. bytes_eq a.items b.items) es k m) ≡ put x m (entries_of es)
  put_view x k m [] e = ap (λ y. (y, m) ∷ []) e
  put_view x k m (f ∷ es) e = by (bytes_eq x f.0.items) refl (put_view x k m es e)
    where
      by : (b : Bool) → bytes_eq x f.0.items ≡ b →
          entries_of (insert_entry (λ a b. bytes_eq a.items b.items) es k m) ≡ put x m (entries_of es) →
          entries_of (insert_entry (λ a b. bytes_eq a.items b.items) (f ∷ es) k m) ≡ put x m (entries_of (f ∷ es))
      by true p rest = let q : bytes_eq k.items f.0.items ≡ true = ap (λ y. bytes_eq y f.0.items) e ∙ p in rw (p, q) refl
      by false p rest = let q : bytes_eq k.items f.0.items ≡ false = ap (λ y. bytes_eq y f.0.items) e ∙ p in rw (p, q) (ap (λ r. (f.0.items, f.1) ∷ r) rest)

  pub name_view : (es : List (Vec ℕ Global × M)) (i : ℕ) → option_map (λ e. e.0.items) (slice_get es i) ≡ name_in (entries_of es) i
  name_view [] i = refl
  name_view (e ∷ es) zero = refl
  name_view (e ∷ es) (suc i) = name_view es i

  pub common_next : (m : M) (w ys bs : List (List ℕ × M)) (i : ℕ) (x : List ℕ) → name_in ys i ≡ Some x →
      with_common m w (drop i ys) bs ≡ with_common m (cond (is_some (found x bs)) (inside x m w) w) (drop (i + 1) ys) bs
  common_next m w [] bs i x e = cc
  common_next m w (a ∷ ys) bs zero x e = let q : a.0 ≡ x = cc in rw (← q) refl
  common_next m w (a ∷ ys) bs (suc i) x e = let q : suc i + 1 ≡ suc (i + 1) = omega arith in rw q (common_next m w ys bs i x e)

  pub common_past : (m : M) (w ys bs : List (List ℕ × M)) (i : ℕ) → name_in ys i ≡ None →
      with_common m w (drop i ys) bs ≡ with_common m w (drop (i + 1) ys) bs
  common_past m w [] bs zero e = refl
  common_past m w [] bs (suc i) e = let q : suc i + 1 ≡ suc (i + 1) = omega arith in rw q refl
  common_past m w (a ∷ ys) bs zero e = cc
  common_past m w (a ∷ ys) bs (suc i) e = let q : suc i + 1 ≡ suc (i + 1) = omega arith in rw q (common_past m w ys bs i e)
