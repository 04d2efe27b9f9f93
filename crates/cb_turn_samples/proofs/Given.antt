-- A pass that takes a list and gives it back with one entry more has given that entry in.
use Rattle.std.proofs.Common.{◌≡◌, List, [], ◌∷◌, ◌++◌, length, slice_get, Some, Result, Ok, Err, OnOk, sym, refl, ap, ◌∙◌, subst}
use Rattle.std.proofs.Math.Seq.{drop-append_seam}
use Rattle.cb_turn.specs.declared.view.View.{View}
use Rattle.cb_turn.specs.Views.{places_from, taking, giving}
use Rattle.cb_turn_samples.specs.Given.{HasGiven}

last_is : {E : Type 0} (xs : List E) (x : E) → slice_get (xs ++ x ∷ []) (length xs) ≡ Some x
last_is [] x = refl
last_is (y ∷ ys) x = last_is ys x

module _ {P E : Type 0} where
  one_more : (v : View P E) (xs : List E) (x : E) → HasGiven v x (giving (taking v xs) (xs ++ x ∷ []))
  one_more v xs x = (length xs, ap (λ (l : List E). v.mine ++ places_from (length xs) l) (drop-append_seam xs (x ∷ [])), last_is xs x)

  pub given : {A B : Type 0} (r : Result A B) (v mid new : View P E) (xs ys : List E) (x : E) → mid ≡ taking v xs → OnOk r (ys ≡ xs ++ x ∷ []) → new ≡ giving mid ys → OnOk r (HasGiven v x new)
  given (Ok done) v mid new xs ys x took added gave =
      subst (λ (u : View P E). HasGiven v x u) (sym (gave ∙ ap (λ (u : View P E). giving u ys) took ∙ ap (λ (l : List E). giving (taking v xs) l) added)) (one_more v xs x)
  given (Err e) v mid new xs ys x took added gave = tt
