-- What is asked of an argument beside its kinds: each quantifier has a typing conjunct, and each divisor is a positive literal.
use Rattle.std.specs.Prelude.{ℕ, ℤ, pos, int_lt, ◌==◌, Bool, true, false, ◌&&◌, Option, Some, None, if◌then◌else◌}
use Rattle.cb_term.specs.declared.kind.Kind.{Kind}
use Rattle.cb_term.specs.declared.kind.Kind.TheVariants as kind
use Rattle.cb_term.specs.declared.kind.Base.TheVariants as base
use Rattle.cb_term.specs.declared.sign.TermSign.{TermSign}
use Rattle.cb_term.specs.declared.sign.TermSign.TheVariants.{Div, Mod, Range}
use Rattle.cb_term.specs.declared.sign.RelSign.{RelSign}
use Rattle.cb_term.specs.declared.sign.RelSign.TheVariants.{Member, Subset}
use Rattle.cb_term.specs.Kinds.{same_kind}
use Rattle.cb_term.specs.Tree.{TermTree, Var, Bound, Num, Truth, Elem, Bin, Neg, Card, Listed, Elems, Truths, Test, TermTrees, End, More, FormulaTree, True, False, Rel, Not, And, Or, Implies, Iff, Every, Exist}

abbrev pub is_kind : Kind → Option Kind → Bool
is_kind k None = false
is_kind k (Some l) = same_kind l k

-- ---- typing conjuncts

abbrev pub is_number : TermTree → Bool
is_number (Num n) = true
is_number t = false

abbrev pub only_if : Bool → Kind → Option Kind
only_if test k = if test then Some k else None

-- the kind of what is in this, where `x : ..` with it is a typing conjunct
abbrev pub member_kind : TermTree → Option Kind
member_kind (Bin Range a b) = only_if (is_number a && is_number b) kind.Integer
member_kind Truths = Some kind.Truth
member_kind (Elems set) = Some (kind.Elem set)
member_kind t = None

-- the kind of the sets within this, where `x <: ..` with it is a typing conjunct
abbrev pub subset_kind : TermTree → Option Kind
subset_kind (Bin Range a b) = only_if (is_number a && is_number b) (kind.SetOf base.Integer)
subset_kind (Elems set) = Some (kind.SetOf (base.Elem set))
subset_kind t = None

abbrev pub given_kind : RelSign → TermTree → Option Kind
given_kind Member t = member_kind t
given_kind Subset t = subset_kind t
given_kind sign t = None

-- the variable of the innermost quantifier
abbrev pub is_innermost : TermTree → Bool
is_innermost (Bound j) = j == 0
is_innermost t = false

abbrev pub or_kind : Option Kind → Option Kind → Option Kind
or_kind None b = b
or_kind (Some k) b = Some k

-- the kind of that variable by its first typing conjunct in the formula's top conjunction
abbrev pub typing_kind : FormulaTree → Option Kind
typing_kind (And f g) = or_kind (typing_kind f) (typing_kind g)
typing_kind (Rel sign a b) = if is_innermost a then given_kind sign b else None
typing_kind f = None

-- the same, of what a for-all asks of its variable
abbrev pub asked_kind : FormulaTree → Option Kind
asked_kind (Implies f g) = typing_kind f
asked_kind f = None

-- ---- terms and formulas

abbrev pub is_positive : TermTree → Bool
is_positive (Num n) = int_lt (pos 0) n
is_positive t = false

-- only a positive literal divides
abbrev pub may_stand_right : TermSign → TermTree → Bool
may_stand_right Div b = is_positive b
may_stand_right Mod b = is_positive b
may_stand_right sign b = true

abbrev mutual
  pub term_is_clear : TermTree → Bool
  term_is_clear (Bin sign a b) = may_stand_right sign b && (term_is_clear a && term_is_clear b)
  term_is_clear (Neg a) = term_is_clear a
  term_is_clear (Card a) = term_is_clear a
  term_is_clear (Listed ts) = all_are_clear ts
  term_is_clear (Test f) = is_clear f
  term_is_clear t = true

  pub all_are_clear : TermTrees → Bool
  all_are_clear End = true
  all_are_clear (More t ts) = term_is_clear t && all_are_clear ts

  -- each quantifier has the kind that its first typing conjunct gives
  pub is_clear : FormulaTree → Bool
  is_clear True = true
  is_clear False = true
  is_clear (Rel sign a b) = term_is_clear a && term_is_clear b
  is_clear (Not f) = is_clear f
  is_clear (And f g) = is_clear f && is_clear g
  is_clear (Or f g) = is_clear f && is_clear g
  is_clear (Implies f g) = is_clear f && is_clear g
  is_clear (Iff f g) = is_clear f && is_clear g
  is_clear (Every x k f) = is_kind k (asked_kind f) && is_clear f
  is_clear (Exist x k f) = is_kind k (typing_kind f) && is_clear f
