-- Linear forms, with whole numbers of any size. A part is a term and its coefficient.
use Rattle.std.specs.Prelude.{ℤ, pos, negsuc, ◌+ℤ◌, ◌*ℤ◌, List, [], ◌∷◌, if◌then◌else◌}
use Rattle.std.specs.Ordering.{int_eq}
use Rattle.cb_term.specs.declared.sign.TermSign.TheVariants.{Add, Minus, Mul}
use Rattle.cb_term.specs.Tree.{TermTree, Num, Neg, Bin}
use Rattle.cb_term.specs.Same.{same_term}

-- the sum of the terms times their coefficients, and of the constant
pub record Form : Type 0 where
  pub parts : List (TermTree × ℤ)
  pub constant : ℤ

abbrev pub zero_form : Form
zero_form = record { parts = []; constant = pos 0 }

abbrev pub single : TermTree → Form
single t = record { parts = (t, pos 1) ∷ []; constant = pos 0 }

-- a part with this coefficient before the others. At 0 it is dropped
abbrev pub renewed_part : TermTree → ℤ → List (TermTree × ℤ) → List (TermTree × ℤ)
renewed_part t n ps = if int_eq n (pos 0) then ps else (t, n) ∷ ps

-- one part more, merged with that of the same term where there is one
abbrev pub with_part : TermTree × ℤ → List (TermTree × ℤ) → List (TermTree × ℤ)
with_part q [] = q ∷ []
with_part q (p ∷ ps) = if same_term q.0 p.0 then renewed_part p.0 (p.1 +ℤ q.1) ps else p ∷ with_part q ps

abbrev pub with_parts : List (TermTree × ℤ) → List (TermTree × ℤ) → List (TermTree × ℤ)
with_parts ps [] = ps
with_parts ps (q ∷ qs) = with_parts (with_part q ps) qs

abbrev pub sum_form : Form → Form → Form
sum_form f g = record { parts = with_parts f.parts g.parts; constant = f.constant +ℤ g.constant }

abbrev pub times_parts : ℤ → List (TermTree × ℤ) → List (TermTree × ℤ)
times_parts k [] = []
times_parts k (p ∷ ps) = (p.0, k *ℤ p.1) ∷ times_parts k ps

abbrev pub times_form : ℤ → Form → Form
times_form k f = if int_eq k (pos 0) then zero_form else record { parts = times_parts k f.parts; constant = k *ℤ f.constant }

-- the product t of two terms with these forms, whose parts come last: a form without parts scales the other
abbrev pub product_form : TermTree → Form → Form → List (TermTree × ℤ) → List (TermTree × ℤ) → Form
product_form t f g ps [] = times_form g.constant f
product_form t f g [] (q ∷ qs) = times_form f.constant g
product_form t f g (p ∷ ps) (q ∷ qs) = single t

-- the linear form of the term
abbrev pub form_of_term : TermTree → Form
form_of_term (Num n) = record { parts = []; constant = n }
form_of_term (Neg a) = times_form (negsuc 0) (form_of_term a)
form_of_term (Bin Add a b) = sum_form (form_of_term a) (form_of_term b)
form_of_term (Bin Minus a b) = sum_form (form_of_term a) (times_form (negsuc 0) (form_of_term b))
form_of_term (Bin Mul a b) =
    product_form (Bin Mul a b) (form_of_term a) (form_of_term b) (form_of_term a).parts (form_of_term b).parts
form_of_term t = single t

-- the forms times their multipliers, added from the left to f
abbrev pub summed : Form → List Form → List ℤ → Form
summed f [] ks = f
summed f (g ∷ gs) [] = f
summed f (g ∷ gs) (k ∷ ks) = summed (sum_form f (times_form k g)) gs ks
