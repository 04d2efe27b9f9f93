-- What each branch writes, as one table, is what is always written.
use Rattle.std.proofs.Common.{◌≡◌, ℕ, Bool, true, false, not, cond, ◌&&◌, ◌||◌, List, [], ◌∷◌, ◌++◌, Option, Some, None, is_some, is_none, bytes_eq, refl, sym, ap, ◌∙◌}
use Rattle.std.proofs.Math.Bool.{or-false, and-false, and-true, and_self, and_assoc, or_assoc}
use Rattle.std.proofs.lemmas.Slice.Eq.{bytes_eq-Decides}
use Rattle.cb_lex.specs.declared.token.Place.{Place}
use Rattle.cb_lex.specs.RawSubstTree.{RawSubstTree, Skip, Assign, Among, If, IfElse, Choice, Any, Parallel, RawSubsts, NoSide, Side}
use Rattle.cb_forms.specs.Find.{found, inside, with_common}
use Rattle.cb_judge.specs.Writes.{Written, with_target, always, each, has_side}
use Rattle.cb_judge.specs.Sure.{nowhere, both_sure, with_all, sure, sure_sides}

abbrev has : List ℕ → Written → Bool
has x w = is_some (found x w)

has_append : (x y : List ℕ) (m : Place) (w : Written) → has x (w ++ (y, m) ∷ []) ≡ (has x w || bytes_eq x y)
has_append x y m [] = by (bytes_eq x y) refl
  where
    by : (b : Bool) → bytes_eq x y ≡ b → has x ((y, m) ∷ []) ≡ (false || bytes_eq x y)
    by true e = rw e refl
    by false e = rw e refl
has_append x y m (e ∷ w) = by (bytes_eq x e.0) refl (has_append x y m w)
  where
    by : (b : Bool) → bytes_eq x e.0 ≡ b → has x (w ++ (y, m) ∷ []) ≡ (has x w || bytes_eq x y) → has x ((e ∷ w) ++ (y, m) ∷ []) ≡ (has x (e ∷ w) || bytes_eq x y)
    by true q h = rw q refl
    by false q h = rw q h

has_inside : (x y : List ℕ) (m : Place) (w : Written) → has x (inside y m w) ≡ (has x w || bytes_eq x y)
has_inside x y m w = by (has y w) refl
  where
    by : (b : Bool) → has y w ≡ b → has x (inside y m w) ≡ (has x w || bytes_eq x y)
    by false e = rw e (has_append x y m w)
    by true e = rw e (same (bytes_eq x y) refl)
      where
        same : (c : Bool) → bytes_eq x y ≡ c → has x w ≡ (has x w || bytes_eq x y)
        same false q = rw q (sym (or-false (has x w)))
        same true q = let i : x ≡ y = (bytes_eq-Decides x y).0 q in rw (i, e) refl

has_common : (x : List ℕ) (m : Place) (w ys bs : Written) → has x (with_common m w ys bs) ≡ (has x w || (has x ys && has x bs))
has_common x m w [] bs = sym (or-false (has x w))
has_common x m w (a ∷ ys) bs = by (has a.0 bs) refl (has_common x m (inside a.0 m w) ys bs) (has_common x m w ys bs)
  where
    end : (h k : Bool) → ((h || true) || (k && true)) ≡ (h || true)
    end true k = refl
    end false k = refl

    by : (b : Bool) → has a.0 bs ≡ b →
        has x (with_common m (inside a.0 m w) ys bs) ≡ (has x (inside a.0 m w) || (has x ys && has x bs)) →
        has x (with_common m w ys bs) ≡ (has x w || (has x ys && has x bs)) →
        has x (with_common m w (a ∷ ys) bs) ≡ (has x w || (has x (a ∷ ys) && has x bs))
    by true e p n = rw e (p ∙ ap (λ h. h || (has x ys && has x bs)) (has_inside x a.0 m w) ∙ here (bytes_eq x a.0) refl)
      where
        here : (c : Bool) → bytes_eq x a.0 ≡ c → ((has x w || bytes_eq x a.0) || (has x ys && has x bs)) ≡ (has x w || (has x (a ∷ ys) && has x bs))
        here false q = rw q (ap (λ h. h || (has x ys && has x bs)) (or-false (has x w)))
        here true q = let i : x ≡ a.0 = (bytes_eq-Decides x a.0).0 q in let f : has x bs ≡ true = ap (λ y. has y bs) i ∙ e in rw (q, f) (end (has x w) (has x ys))
    by false e p n = rw e (n ∙ here (bytes_eq x a.0) refl)
      where
        here : (c : Bool) → bytes_eq x a.0 ≡ c → (has x w || (has x ys && has x bs)) ≡ (has x w || (has x (a ∷ ys) && has x bs))
        here false q = rw q refl
        here true q = let i : x ≡ a.0 = (bytes_eq-Decides x a.0).0 q in let f : has x bs ≡ false = ap (λ y. has y bs) i ∙ e in rw (q, f) (ap (λ h. has x w || h) (and-false (has x ys)))

has_all : (x : List ℕ) (w c : Written) → has x (with_all w (Some c)) ≡ (has x w || has x c)
has_all x w c = has_common x nowhere w c c ∙ ap (λ h. has x w || h) (and_self (has x c))

mutual
  sure_has : (x : List ℕ) (s : RawSubstTree) (w : Written) → has x (sure w s) ≡ (has x w || always x s)
  sure_has x Skip w = sym (or-false (has x w))
  sure_has x (Assign y t) w = has_inside x y.text y.place w
  sure_has x (Among y d) w = has_inside x y.text y.place w
  sure_has x (If f s) w = sym (or-false (has x w))
  sure_has x (IfElse f s t) w = has_common x nowhere w (sure [] s) (sure [] t) ∙ rw (sure_has x s [], sure_has x t []) refl
  sure_has x (Choice NoSide) w = sym (or-false (has x w))
  sure_has x (Choice (Side s ss)) w = sides_have x ss w (sure [] s) ∙ rw (sure_has x s []) refl
  sure_has x (Any y f s) w = sure_has x s w
  sure_has x (Parallel s t) w = sure_has x t (sure w s) ∙ rw (sure_has x s w) (or_assoc (has x w) (always x s) (always x t))

  sides_have : (x : List ℕ) (ss : RawSubsts) (w c : Written) → has x (with_all w (sure_sides (Some c) ss)) ≡ (has x w || (has x c && each x ss))
  sides_have x NoSide w c = has_all x w c ∙ ap (λ h. has x w || h) (sym (and-true (has x c)))
  sides_have x (Side s ss) w c =
      sides_have x ss w (with_common nowhere [] c (sure [] s))
      ∙ ap (λ h. has x w || (h && each x ss)) (has_common x nowhere [] c (sure [] s) ∙ rw (sure_has x s []) refl)
      ∙ ap (λ h. has x w || h) (and_assoc (has x c) (always x s) (each x ss))

pub sure_is_always : (x : List ℕ) (s : RawSubstTree) → is_none (found x (sure [] s)) ≡ not (always x s)
sure_is_always x s = none_is_not (found x (sure [] s)) ∙ ap not (sure_has x s [])
  where
    none_is_not : {A : Type 0} → (o : Option A) → is_none o ≡ not (is_some o)
    none_is_not None = refl
    none_is_not (Some a) = refl
