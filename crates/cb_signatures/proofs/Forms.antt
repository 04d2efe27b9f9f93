-- Names are found and put among kept forms as among forms.
use Rattle.std.proofs.Common.{◌≡◌, ℕ, Bool, true, false, List, [], ◌∷◌, bytes_eq, refl, ap}
use Rattle.cb_forms.specs.declared.form.Form.{Form as Known}
use Rattle.cb_forms.specs.Find.{found, put}
use Rattle.cb_forms.specs.Kinds.{form_of, maybe_form}
use Rattle.cb_signatures.specs.Kept.{formed}

pub found_formed : (x : List ℕ) (es : List (List ℕ × Known)) → found x (formed es) ≡ maybe_form (found x es)
found_formed x [] = refl
found_formed x (e ∷ es) = by (bytes_eq x e.0) refl (found_formed x es)
  where
    by : (b : Bool) → bytes_eq x e.0 ≡ b → found x (formed es) ≡ maybe_form (found x es) → found x (formed (e ∷ es)) ≡ maybe_form (found x (e ∷ es))
    by true p rest = rw p refl
    by false p rest = rw p rest

pub put_formed : (x : List ℕ) (f : Known) (es : List (List ℕ × Known)) → formed (put x f es) ≡ put x (form_of f) (formed es)
put_formed x f [] = refl
put_formed x f (e ∷ es) = by (bytes_eq x e.0) refl (put_formed x f es)
  where
    by : (b : Bool) → bytes_eq x e.0 ≡ b → formed (put x f es) ≡ put x (form_of f) (formed es) → formed (put x f (e ∷ es)) ≡ put x (form_of f) (formed (e ∷ es))
    by true p rest = rw p refl
    by false p rest = rw p (ap (λ r. (e.0, form_of e.1) ∷ r) rest)
