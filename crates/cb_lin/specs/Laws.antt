-- The values of linear forms, where `number` gives a whole number to each term.
use Rattle.std.specs.Prelude.{ℕ, ◌≡◌, ℤ, pos, ◌+ℤ◌, ◌*ℤ◌, ◌≤ℤ◌, true, List, [], ◌∷◌, ◌++◌, ⊤}
use Rattle.cb_term.specs.declared.kind.Kind.TheVariants as kind
use Rattle.cb_term.specs.declared.value.Value.{Value}
use Rattle.cb_term.specs.declared.value.Value.TheVariants as value
use Rattle.cb_term.specs.declared.sign.TermSign.TheVariants.{Add, Minus, Mul}
use Rattle.cb_term.specs.Tree.{TermTree, Neg, Bin}
use Rattle.cb_term.specs.Same.{same_term}
use Rattle.cb_term.specs.Values.{Look, IsOf}
use Rattle.cb_term.specs.Holds.{Meets, IsValue}
use Rattle.cb_lin.specs.Form.{Form, form_of_term, summed}

module _ (number : TermTree → ℤ) where
  abbrev pub parts_value : List (TermTree × ℤ) → ℤ
  parts_value [] = pos 0
  parts_value (p ∷ ps) = p.1 *ℤ number p.0 +ℤ parts_value ps

  abbrev pub form_value : Form → ℤ
  form_value f = parts_value f.parts +ℤ f.constant

  -- the forms' values times their multipliers, added to n
  abbrev pub sum_value : ℤ → List Form → List ℤ → ℤ
  sum_value n [] ks = n
  sum_value n (f ∷ fs) [] = n
  sum_value n (f ∷ fs) (k ∷ ks) = sum_value (n +ℤ (k *ℤ form_value f)) fs ks

  -- no form's value times its multiplier is negative
  abbrev pub NoneNegative : List Form → List ℤ → Type 0
  NoneNegative [] ks = ⊤
  NoneNegative (f ∷ fs) [] = ⊤
  NoneNegative (f ∷ fs) (k ∷ ks) = (pos 0 ≤ℤ (k *ℤ form_value f)) × NoneNegative fs ks

-- the term, and each term in it whose form is taken
abbrev pub taken : TermTree → List TermTree
taken (Neg a) = Neg a ∷ taken a
taken (Bin Add a b) = Bin Add a b ∷ (taken a ++ taken b)
taken (Bin Minus a b) = Bin Minus a b ∷ (taken a ++ taken b)
taken (Bin Mul a b) = Bin Mul a b ∷ (taken a ++ taken b)
taken t = t ∷ []

abbrev pub AllAre : (TermTree → Type 0) → List TermTree → Type 0
AllAre P [] = ⊤
AllAre P (t ∷ ts) = P t × AllAre P ts

-- terms that are the same get the same number
abbrev pub Respects : (TermTree → ℤ) → Type 0
Respects number = (t u : TermTree) → same_term t u ≡ true → number t ≡ number u

-- the number of the term is its value
abbrev pub IsRight : List ℕ → Look → List Value → (TermTree → ℤ) → TermTree → Type 0
IsRight sizes look env number t = IsValue sizes look t env (value.Int (number t))

-- the form has the number of its term, where the number of each term whose form is taken is its value
abbrev pub FormHasValue : Type 0
FormHasValue = (sizes : List ℕ) (look : Look) (env : List Value) (number : TermTree → ℤ) (t : TermTree) → Respects number →
    AllAre (IsRight sizes look env number) (taken t) → form_value number (form_of_term t) ≡ number t

-- it cannot be that no numbers fit finitely many terms, where the values of these are whole numbers: so a conclusion that cannot
-- fail may take such numbers
abbrev pub NumbersCanBeGiven : Type 0
NumbersCanBeGiven = (sizes : List ℕ) (look : Look) (env : List Value) (ts : List TermTree) →
    AllAre (λ t. Meets sizes look t env (IsOf sizes kind.Integer)) ts →
    ¬ ((number : TermTree → ℤ) → Respects number → ¬ AllAre (IsRight sizes look env number) ts)

-- a sum of forms has the sum of their values times their multipliers
abbrev pub SumHasValue : Type 0
SumHasValue = (number : TermTree → ℤ) (f : Form) (gs : List Form) (ks : List ℤ) → Respects number →
    form_value number (summed f gs ks) ≡ sum_value number (form_value number f) gs ks

-- it is not negative where nothing that is added is
abbrev pub SumIsNotNegative : Type 0
SumIsNotNegative = (number : TermTree → ℤ) (f : Form) (gs : List Form) (ks : List ℤ) → Respects number →
    pos 0 ≤ℤ form_value number f → NoneNegative number gs ks → pos 0 ≤ℤ form_value number (summed f gs ks)
