-- What adding one part does.
use Rattle.std.proofs.Common.{◌≡◌, ℕ, zero, suc, ◌<◌, ℤ, pos, ◌+ℤ◌, Bool, true, false, List, [], ◌∷◌, ◌++◌, length, get_or, take, drop, set, Option, Some, None, refl, sym, arith}
use Rattle.std.proofs.lemmas.List.{set_split}
use Rattle.std.specs.Prelude.{cond}
use Rattle.std.specs.List.{remove}
use Rattle.std.proofs.lemmas.Bool.{false_from_ne_true}
use Rattle.std.proofs.lemmas.Bool.Decides.{Decides-int_eq}
use Rattle.std.specs.Ordering.{int_eq}
use Rattle.cb_term.specs.Tree.{TermTree}
use Rattle.cb_term.specs.Same.{same_term}
use Rattle.cb_lin.specs.Steps.{small, place, behind, renewed, add_part}

-- what has been made, before what is left
abbrev pub prepend : List (TermTree × ℤ) → Option (List (TermTree × ℤ)) → Option (List (TermTree × ℤ))
prepend xs None = None
prepend xs (Some ys) = Some (xs ++ ys)

prepend_nil : (o : Option (List (TermTree × ℤ))) → prepend [] o ≡ o
prepend_nil None = refl
prepend_nil (Some ys) = refl

behind_prepend : (p : TermTree × ℤ) (xs : List (TermTree × ℤ)) (o : Option (List (TermTree × ℤ))) → behind p (prepend xs o) ≡ prepend (p ∷ xs) o
behind_prepend p xs None = refl
behind_prepend p xs (Some ys) = refl

place_zero : (b : Bool) (n : ℕ) → cond b 0 (suc n) ≡ 0 → b ≡ true
place_zero true n e = refl
place_zero false n e = cc

place_suc : (b : Bool) (n i : ℕ) → cond b 0 (suc n) ≡ suc i → (b ≡ false) × (n ≡ i)
place_suc true n i e = cc
place_suc false n i e = (refl, omega arith)

-- a part whose term is not there goes to the end
pub add_end : (q : TermTree × ℤ) (xs : List (TermTree × ℤ)) → place q.0 xs ≡ length xs → add_part q xs ≡ Some (xs ++ q ∷ [])
add_end q [] e = refl
add_end q (x ∷ xs) e =
    let p = place_suc (same_term q.0 x.0) (place q.0 xs) (length xs) e in
    rw (p.0, add_end q xs p.1) refl

add_at : (q : TermTree × ℤ) (xs : List (TermTree × ℤ)) (i : ℕ) (d : TermTree × ℤ) → place q.0 xs ≡ i → i < length xs →
    add_part q xs ≡ prepend (take i xs) (renewed (get_or xs i d).0 (small ((get_or xs i d).1 +ℤ q.1)) (drop (suc i) xs))
add_at q [] i d e h = absurd (omega arith)
add_at q (x ∷ xs) zero d e h = rw (place_zero (same_term q.0 x.0) (place q.0 xs) e) (sym (prepend_nil _))
add_at q (x ∷ xs) (suc i) d e h =
    let p = place_suc (same_term q.0 x.0) (place q.0 xs) i e in
    let n : i < length xs = omega arith in
    rw (p.0, add_at q xs i d p.1 n) (behind_prepend _ _ _)

-- a part whose term is there
module _ (q : TermTree × ℤ) (xs : List (TermTree × ℤ)) (i : ℕ) (e : place q.0 xs ≡ i) (h : i < length xs) where
  pub add_none : (d : TermTree × ℤ) → small ((get_or xs i d).1 +ℤ q.1) ≡ None → add_part q xs ≡ None
  add_none d s = rw (add_at q xs i d e h, s) refl

  pub add_zero : (d : TermTree × ℤ) → small ((get_or xs i d).1 +ℤ q.1) ≡ Some (pos 0) → add_part q xs ≡ Some (remove xs i)
  add_zero d s = rw (add_at q xs i d e h, s) refl

  pub add_some : (d : TermTree × ℤ) (n : ℤ) → (n ≡ pos 0 → ⊥) → small ((get_or xs i d).1 +ℤ q.1) ≡ Some n →
      add_part q xs ≡ Some (set xs i ((get_or xs i d).0, n))
  add_some d n z s =
      let z' : int_eq n (pos 0) ≡ false = false_from_ne_true (int_eq n (pos 0)) (λ t. z ((Decides-int_eq n (pos 0)).0 t)) in
      rw (add_at q xs i d e h, s, z', set_split xs i ((get_or xs i d).0, n) h) refl
