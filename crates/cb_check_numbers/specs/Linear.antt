-- LIN: rows that hypotheses and the negated goal name, whose sum times multipliers cannot be. A row is a linear form that is at
-- least 0, or that is 0.
use Rattle.std.specs.Prelude.{ℕ, zero, suc, ℤ, pos, negsuc, int_lt, int_le, Bool, true, false, ◌&&◌, ◌||◌, if◌then◌else◌, List, [], ◌∷◌, map, Option, Some, None}
use Rattle.cb_term.specs.declared.name.Name.{Name}
use Rattle.cb_term.specs.declared.kind.Kind.{Kind}
use Rattle.cb_term.specs.declared.kind.Kind.TheVariants as kind
use Rattle.cb_term.specs.declared.sign.RelSign.TheVariants.{Equal, Less, AtMost}
use Rattle.cb_term.specs.Tree.{TermTree, Num, FormulaTree, Rel, Not}
use Rattle.cb_lin.specs.Form.{Form, zero_form, form_of_term, summed}
use Rattle.cb_lin.specs.Small.{small_all, small_sums}
use Rattle.cb_seq.specs.declared.rule.Multiple.{Multiple}
use Rattle.cb_seq.specs.Kinds.{kind_of}
use Rattle.cb_seq.specs.Validity.{Claim}
use Rattle.cb_seq.specs.Premises.{hypothesis, Outcome, only_where}
use Rattle.cb_check_numbers.specs.declared.linear.DifferenceRef.{DifferenceRef}

-- the kind is known, and is INTEGER
abbrev pub is_integer : Option Kind → Bool
is_integer (Some kind.Integer) = true
is_integer k = false

-- `greater - smaller`, or one less where it is strict, of which it is said that it is at least 0, or that it is 0
pub record Difference : Type 0 where
  pub greater : TermTree
  pub smaller : TermTree
  pub strict : Bool
  pub is_zero : Bool

-- the same, where the terms stand elsewhere
abbrev pub difference_at : DifferenceRef → Difference
difference_at d = record { greater = d.greater.now; smaller = d.smaller.now; strict = d.strict; is_zero = d.is_zero }

abbrev pub opt_difference : Option DifferenceRef → Option Difference
opt_difference None = None
opt_difference (Some d) = Some (difference_at d)

-- ---- what formulas say

-- `b - a`, at least 0
abbrev pub at_most : TermTree → TermTree → Difference
at_most a b = record { greater = b; smaller = a; strict = false; is_zero = false }

-- `b - a - 1`, at least 0
abbrev pub below : TermTree → TermTree → Difference
below a b = record { greater = b; smaller = a; strict = true; is_zero = false }

-- `b - a`, which is 0
abbrev pub same : TermTree → TermTree → Difference
same a b = record { greater = b; smaller = a; strict = false; is_zero = true }

-- what a comparison says
abbrev pub where_true : FormulaTree → Option Difference
where_true (Rel AtMost a b) = Some (at_most a b)
where_true (Rel Less a b) = Some (below a b)
where_true f = None

-- what it says of its terms that a comparison is false
abbrev pub where_false : FormulaTree → Option Difference
where_false (Rel AtMost a b) = Some (below b a)
where_false (Rel Less a b) = Some (at_most b a)
where_false f = None

-- what a hypothesis says
abbrev pub said : List ℕ → List (Name × Kind) → FormulaTree → Option Difference
said sizes names (Rel Equal a b) = if is_integer (kind_of sizes names [] a) then Some (same a b) else None
said sizes names (Not f) = where_false f
said sizes names f = where_true f

-- what it says of its terms that the goal is false
abbrev pub denied : FormulaTree → Option Difference
denied (Not f) = where_true f
denied f = where_false f

-- nothing is said where there is no such hypothesis
abbrev pub said_by : List ℕ → List (Name × Kind) → Option FormulaTree → Option Difference
said_by sizes names None = None
said_by sizes names (Some f) = said sizes names f

-- what the number names: 0 the negated goal, and any other a hypothesis
abbrev pub named : List ℕ → Claim → ℕ → Option Difference
named sizes q zero = denied q.goal
named sizes q (suc n) = said_by sizes q.names (hypothesis q.hypotheses (suc n))

-- ---- rows

-- how often 1 is taken
abbrev pub ones : Bool → ℤ
ones strict = if strict then negsuc 0 else pos 0

-- the first less the second, and less 1 where it is strict
abbrev pub form_between : Form → Form → Bool → Form
form_between f g strict = summed zero_form (f ∷ g ∷ form_of_term (Num (pos 1)) ∷ []) (pos 1 ∷ negsuc 0 ∷ ones strict ∷ [])

-- `greater - smaller`, or `greater - smaller - 1`
abbrev pub form_of_difference : Difference → Form
form_of_difference d = form_between (form_of_term d.greater) (form_of_term d.smaller) d.strict

-- no number in the form of a term in its sides whose form is taken passes 2^100 in size
abbrev pub is_small_difference : Difference → Bool
is_small_difference d = small_all d.greater && small_all d.smaller

-- the row of a difference whose sides are small. Its own numbers may be of any size
abbrev pub small_row : Difference → Option Form
small_row d = if is_small_difference d then Some (form_of_difference d) else None

-- the row, where it may be taken so often: what is at least 0 may not be taken less than 0 times
abbrev pub row_taken : ℤ → Option Difference → Option Form
row_taken k None = None
row_taken k (Some d) = if d.is_zero || int_le (pos 0) k then small_row d else None

-- a row before others
abbrev pub with_row : Option Form → Option (List Form) → Option (List Form)
with_row None o = None
with_row (Some f) None = None
with_row (Some f) (Some fs) = Some (f ∷ fs)

-- the rows that are named, where each is there and may be taken so often
abbrev pub rows_taken : List ℕ → Claim → List Multiple → Option (List Form)
rows_taken sizes q [] = Some []
rows_taken sizes q (m ∷ ms) = with_row (row_taken m.by (named sizes q m.row)) (rows_taken sizes q ms)

-- ---- the sum

-- how often each is taken
abbrev pub multipliers : List Multiple → List ℤ
multipliers ms = map (λ (m : Multiple). m.by) ms

-- there are no parts, and the number is below 0
abbrev pub is_below_zero : List (TermTree × ℤ) → ℤ → Bool
is_below_zero [] n = int_lt n (pos 0)
is_below_zero (p ∷ ps) n = false

-- the form is not at least 0, whatever its terms are
abbrev pub cannot_be : Form → Bool
cannot_be f = is_below_zero f.parts f.constant

-- the rows times the multipliers add up to what cannot be, and no number passes 2^100 in size in a row times its multiplier, nor in
-- a sum so far
abbrev pub refuted_by : Option (List Form) → List ℤ → Bool
refuted_by None ks = false
refuted_by (Some fs) ks = small_sums zero_form fs ks && cannot_be (summed zero_form fs ks)

-- LIN. It takes one row at least
abbrev pub linear_sum : List ℕ → Claim → List Multiple → Outcome
linear_sum sizes q [] = None
linear_sum sizes q (m ∷ ms) = only_where (refuted_by (rows_taken sizes q (m ∷ ms)) (multipliers (m ∷ ms))) []
