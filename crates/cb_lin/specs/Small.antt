-- The bound on the numbers of forms, and what a row keeps.
use Rattle.std.specs.Prelude.{suc, ◌^◌, ℤ, pos, negsuc, Bool, true, not, ◌&&◌, List, [], ◌∷◌, nat_le}
use Rattle.std.specs.Ordering.{int_eq}
use Rattle.cb_term.specs.declared.sign.TermSign.TheVariants.{Add, Minus, Mul}
use Rattle.cb_term.specs.Tree.{TermTree, Num, Neg, Bin}
use Rattle.cb_term.specs.Same.{same_term}
use Rattle.cb_lin.specs.Form.{Form, sum_form, times_form, form_of_term}

-- the size is at most 2^100
abbrev pub is_small : ℤ → Bool
is_small (pos n) = nat_le n (2 ^ 100)
is_small (negsuc n) = nat_le (suc n) (2 ^ 100)

abbrev pub small_parts : List (TermTree × ℤ) → Bool
small_parts [] = true
small_parts (p ∷ ps) = is_small p.1 && small_parts ps

-- no number in the form passes 2^100
abbrev pub small_form : Form → Bool
small_form f = small_parts f.parts && is_small f.constant

-- nor in the form of a term in t whose form is taken. Nothing is asked of the inside of a part
abbrev pub small_all : TermTree → Bool
small_all (Num n) = small_form (form_of_term (Num n))
small_all (Neg a) = small_all a && small_form (form_of_term (Neg a))
small_all (Bin Add a b) = small_all a && (small_all b && small_form (form_of_term (Bin Add a b)))
small_all (Bin Minus a b) = small_all a && (small_all b && small_form (form_of_term (Bin Minus a b)))
small_all (Bin Mul a b) = small_all a && (small_all b && small_form (form_of_term (Bin Mul a b)))
small_all t = true

-- no number passes 2^100 in a form times its multiplier, nor in a sum so far
abbrev pub small_sums : Form → List Form → List ℤ → Bool
small_sums f [] ks = true
small_sums f (g ∷ gs) [] = true
small_sums f (g ∷ gs) (k ∷ ks) =
    small_form (times_form k g) && (small_form (sum_form f (times_form k g)) && small_sums (sum_form f (times_form k g)) gs ks)

-- ---- what a row keeps

-- no part has the term t
abbrev pub lacks : TermTree → List (TermTree × ℤ) → Bool
lacks t [] = true
lacks t (p ∷ ps) = not (same_term p.0 t) && lacks t ps

-- no two parts have the same term
abbrev pub are_apart : List (TermTree × ℤ) → Bool
are_apart [] = true
are_apart (p ∷ ps) = lacks p.0 ps && are_apart ps

-- no coefficient is 0
abbrev pub none_zero : List (TermTree × ℤ) → Bool
none_zero [] = true
none_zero (p ∷ ps) = not (int_eq p.1 (pos 0)) && none_zero ps
