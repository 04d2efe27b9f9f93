-- What names stand for in an argument of a proof. `bound` are the names of the quantifiers around, the innermost last.
use Rattle.std.specs.Prelude.{ℕ, ℤ, ◌+◌, ◌-◌, ◌^◌, min, ◌==◌, Bool, true, false, ◌&&◌, List, [], ◌∷◌, length, Option, Some, None, if◌then◌else◌}
use Rattle.cb_lex.specs.declared.raw.name.RawName.{RawName}
use Rattle.cb_lex.specs.declared.raw.sign.RawAtom.{RawAtom}
use Rattle.cb_lex.specs.declared.raw.sign.RawAtom.TheVariants.{MaxInt, MinInt, Nat, Nat1, Int, Truths}
use Rattle.cb_lex.specs.declared.raw.sign.RawOperator.TheVariants.{UpTo}
use Rattle.cb_lex.specs.declared.raw.sign.RawRelation.{RawRelation}
use Rattle.cb_lex.specs.declared.raw.sign.RawRelation.TheVariants.{Member, Subset}
use Rattle.cb_lex.specs.RawTermTree.{RawTermTree, Number, Name as Named, Atom, Binary, Minus, RawFormulaTree, And, Relation}
use Rattle.cb_term.specs.declared.kind.Base.TheVariants as base
use Rattle.cb_term.specs.declared.kind.Kind.{Kind}
use Rattle.cb_term.specs.declared.kind.Kind.TheVariants as kind
use Rattle.cb_term.specs.declared.name.Name.{Name}
use Rattle.cb_term.specs.declared.table.SetNames.{SetNames}
use Rattle.cb_term.specs.Names.{same_name}
use Rattle.cb_spec.specs.declared.system.System.{System}
use Rattle.cb_forms.specs.Find.{found, inside}
use Rattle.cb_arguments.specs.declared.scope.Symbol.{Symbol}
use Rattle.cb_arguments.specs.declared.scope.Symbol.TheVariants as symbol

-- ---- the sets, elements and constants of a system

abbrev pub Symbols : Type 0
Symbols = List (List ℕ × Symbol)

-- things are counted in 32 bits, which is enough for each text
abbrev pub next : ℕ → ℕ
next k = min (k + 1) (2 ^ 32 - 1)

-- with the elements of a set, from the one with this number on
abbrev pub with_elements : (set : ℕ) → (index : ℕ) → Symbols → List Name → Symbols
with_elements set index symbols [] = symbols
with_elements set index symbols (x ∷ xs) = with_elements set (next index) (inside x.text (symbol.Element set index) symbols) xs

-- with the sets from the one with this number on, each before its elements
abbrev pub with_sets : (set : ℕ) → Symbols → List SetNames → Symbols
with_sets set symbols [] = symbols
with_sets set symbols (s ∷ ss) = with_sets (next set) (with_elements set 0 (inside s.name.text (symbol.Set set) symbols) s.elements) ss

abbrev pub with_constants : Symbols → List (Name × ℤ) → Symbols
with_constants symbols [] = symbols
with_constants symbols (c ∷ cs) = with_constants (inside c.0.text (symbol.Constant c.1) symbols) cs

abbrev pub symbols_of : System → Symbols
symbols_of y = with_constants (with_sets 0 [] y.sets.sets.items) y.constants

-- ---- names

-- names are told by their text and their number
abbrev pub name_of : RawName → Name
name_of x = record { text = x.text; number = x.number }

abbrev pub or_else : Option ℕ → Option ℕ → Option ℕ
or_else None b = b
or_else (Some k) b = Some k

-- the quantifiers between a name and the innermost one that binds it
abbrev pub bound_at : List Name → Name → Option ℕ
bound_at [] x = None
bound_at (b ∷ bs) x = or_else (bound_at bs x) (if same_name x b then Some (length bs) else None)

abbrev pub unless_bound : Option ℕ → Option Symbol → Option Symbol
unless_bound None g = g
unless_bound (Some k) g = None

-- a set, an element or a constant is no opened name, and its name is not bound
abbrev pub written_at : Symbols → RawName → Option Symbol
written_at symbols x = if x.number == 0 then found x.text symbols else None

abbrev pub symbol_at : Symbols → List Name → RawName → Option Symbol
symbol_at symbols bound x = unless_bound (bound_at bound (name_of x)) (written_at symbols x)

-- ---- typing conjuncts

abbrev pub is_constant : Option Symbol → Bool
is_constant (Some (symbol.Constant n)) = true
is_constant g = false

-- a number that is known
abbrev pub is_plain_end : Symbols → List Name → RawTermTree → Bool
is_plain_end symbols bound (Number n p) = true
is_plain_end symbols bound (Named x) = is_constant (symbol_at symbols bound x)
is_plain_end symbols bound (Atom MaxInt p) = true
is_plain_end symbols bound (Atom MinInt p) = true
is_plain_end symbols bound t = false

-- the same, with a minus or without
abbrev pub is_end : Symbols → List Name → RawTermTree → Bool
is_end symbols bound (Minus p t) = is_plain_end symbols bound t
is_end symbols bound t = is_plain_end symbols bound t

abbrev pub only_if : Bool → Kind → Option Kind
only_if test k = if test then Some k else None

abbrev pub atom_kind : RawAtom → Option Kind
atom_kind Nat = Some kind.Integer
atom_kind Nat1 = Some kind.Integer
atom_kind Int = Some kind.Integer
atom_kind Truths = Some kind.Truth
atom_kind a = None

abbrev pub element_kind : Option Symbol → Option Kind
element_kind (Some (symbol.Set set)) = Some (kind.Elem set)
element_kind g = None

abbrev pub element_set_kind : Option Symbol → Option Kind
element_set_kind (Some (symbol.Set set)) = Some (kind.SetOf (base.Elem set))
element_set_kind g = None

-- the kind of what is in this, where `x : ..` with it is a typing conjunct
abbrev pub member_kind : Symbols → List Name → RawTermTree → Option Kind
member_kind symbols bound (Binary UpTo p a b) = only_if (is_end symbols bound a && is_end symbols bound b) kind.Integer
member_kind symbols bound (Atom a p) = atom_kind a
member_kind symbols bound (Named x) = element_kind (symbol_at symbols bound x)
member_kind symbols bound t = None

-- the kind of the sets within this, where `x <: ..` with it is a typing conjunct
abbrev pub subset_kind : Symbols → List Name → RawTermTree → Option Kind
subset_kind symbols bound (Binary UpTo p a b) = only_if (is_end symbols bound a && is_end symbols bound b) (kind.SetOf base.Integer)
subset_kind symbols bound (Named x) = element_set_kind (symbol_at symbols bound x)
subset_kind symbols bound t = None

abbrev pub given_kind : Symbols → List Name → RawRelation → RawTermTree → Option Kind
given_kind symbols bound Member t = member_kind symbols bound t
given_kind symbols bound Subset t = subset_kind symbols bound t
given_kind symbols bound r t = None

abbrev pub is_name : Name → RawTermTree → Bool
is_name x (Named y) = same_name (name_of y) x
is_name x t = false

abbrev pub or_kind : Option Kind → Option Kind → Option Kind
or_kind None b = b
or_kind (Some k) b = Some k

-- the kind by the first typing conjunct of the name in the formula's top conjunction. The name itself is among the bound ones
abbrev pub typing_kind : Symbols → List Name → Name → RawFormulaTree → Option Kind
typing_kind symbols bound x (And f g) = or_kind (typing_kind symbols bound x f) (typing_kind symbols bound x g)
typing_kind symbols bound x (Relation r p a b) = if is_name x a then given_kind symbols bound r b else None
typing_kind symbols bound x f = None
