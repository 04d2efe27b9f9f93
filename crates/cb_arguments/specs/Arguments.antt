-- Arguments of proofs: which fit, and their normal form.
use Rattle.std.specs.Prelude.{ℕ, ℤ, ◌-◌, ◌^◌, min, Bool, true, false, ◌&&◌, List, [], ◌∷◌, ◌++◌, Option, Some, None, is_some, if◌then◌else◌}
use Rattle.cb_lex.specs.declared.raw.name.RawName.{RawName}
use Rattle.cb_lex.specs.declared.raw.sign.RawOperator.{RawOperator}
use Rattle.cb_lex.specs.declared.raw.sign.RawOperator.TheVariants.{Divide, Mod}
use Rattle.cb_lex.specs.RawTermTree.{RawTermTree, RawTerms, RawFormulaTree}
use Rattle.cb_lex.specs.RawTermTree as raw
use Rattle.cb_term.specs.declared.kind.Kind.{Kind}
use Rattle.cb_term.specs.declared.kind.Kind.TheVariants as kind
use Rattle.cb_term.specs.declared.name.Name.{Name}
use Rattle.cb_term.specs.Tree.{TermTree, Var, Bound, Num, Elem, Bin, Card, Listed, Elems, Test, TermTrees, End, More, FormulaTree, True, False, Not, And, Or, Implies, Iff, Every, Exist}
use Rattle.cb_forms.specs.Kinds.{is_positive}
use Rattle.cb_judge.specs.Judged.{literal_of}
use Rattle.cb_normal.specs.Normal.{atom_term, sign_of, minus, related}
use Rattle.cb_seq.specs.Kinds.{kind_of, fits}
use Rattle.cb_arguments.specs.declared.scope.Symbol.{Symbol}
use Rattle.cb_arguments.specs.declared.scope.Symbol.TheVariants as symbol
use Rattle.cb_arguments.specs.Scopes.{Symbols, name_of, bound_at, written_at, typing_kind}

-- the names under one more quantifier
abbrev pub under : List Name → RawName → List Name
under bound x = bound ++ name_of x ∷ []

-- ---- what is asked of an argument beside its kinds

-- only a positive literal divides
abbrev pub may_divide : RawOperator → Option ℤ → Bool
may_divide Divide d = is_positive d
may_divide Mod d = is_positive d
may_divide o d = true

module _ (symbols : Symbols) where
  -- each quantifier has a typing conjunct, and each divisor is a positive literal
  abbrev mutual
    pub term_is_clear : List Name → RawTermTree → Bool
    term_is_clear bound (raw.Number n p) = true
    term_is_clear bound (raw.Name x) = true
    term_is_clear bound (raw.Atom a p) = true
    term_is_clear bound (raw.Binary o p a b) = may_divide o (literal_of b) && term_is_clear bound a && term_is_clear bound b
    term_is_clear bound (raw.Minus p a) = term_is_clear bound a
    term_is_clear bound (raw.Card p a) = term_is_clear bound a
    term_is_clear bound (raw.TruthOf p f) = is_clear bound f
    term_is_clear bound (raw.Listed p ts) = all_are_clear bound ts

    pub all_are_clear : List Name → RawTerms → Bool
    all_are_clear bound raw.End = true
    all_are_clear bound (raw.More t ts) = term_is_clear bound t && all_are_clear bound ts

    pub is_clear : List Name → RawFormulaTree → Bool
    is_clear bound raw.True = true
    is_clear bound raw.False = true
    is_clear bound (raw.Not f) = is_clear bound f
    is_clear bound (raw.And f g) = is_clear bound f && is_clear bound g
    is_clear bound (raw.Or f g) = is_clear bound f && is_clear bound g
    is_clear bound (raw.Implies f g) = is_clear bound f && is_clear bound g
    is_clear bound (raw.Equivalent f g) = is_clear bound f && is_clear bound g
    is_clear bound (raw.Relation r p a b) = term_is_clear bound a && term_is_clear bound b
    is_clear bound (raw.Every x d f) =
        is_some (typing_kind symbols (under bound x) (name_of x) d) && is_clear (under bound x) d && is_clear (under bound x) f
    is_clear bound (raw.Exists x f) = is_some (typing_kind symbols (under bound x) (name_of x) f) && is_clear (under bound x) f

-- ---- the normal form

abbrev pub free_term : RawName → Option Symbol → TermTree
free_term x None = Var (name_of x)
free_term x (Some (symbol.Constant n)) = Num n
free_term x (Some (symbol.Element set index)) = Elem set index
free_term x (Some (symbol.Set set)) = Elems set

-- a bound name hides every other. There are fewer than 2 ^ 32 quantifiers
abbrev pub bound_or_free : Option ℕ → TermTree → TermTree
bound_or_free None t = t
bound_or_free (Some k) t = Bound (min k (2 ^ 32 - 1))

abbrev pub or_integer : Option Kind → Kind
or_integer None = kind.Integer
or_integer (Some k) = k

module _ (symbols : Symbols) where
  abbrev mutual
    pub term_in : List Name → RawTermTree → TermTree
    term_in bound (raw.Number n p) = Num n
    term_in bound (raw.Name x) = bound_or_free (bound_at bound (name_of x)) (free_term x (written_at symbols x))
    term_in bound (raw.Atom a p) = atom_term a
    term_in bound (raw.Binary o p a b) = Bin (sign_of o) (term_in bound a) (term_in bound b)
    term_in bound (raw.Minus p a) = minus (term_in bound a)
    term_in bound (raw.Card p a) = Card (term_in bound a)
    term_in bound (raw.TruthOf p f) = Test (formula_in bound f)
    term_in bound (raw.Listed p ts) = Listed (terms_in bound ts)

    pub terms_in : List Name → RawTerms → TermTrees
    terms_in bound raw.End = End
    terms_in bound (raw.More t ts) = More (term_in bound t) (terms_in bound ts)

    pub formula_in : List Name → RawFormulaTree → FormulaTree
    formula_in bound raw.True = True
    formula_in bound raw.False = False
    formula_in bound (raw.Not f) = Not (formula_in bound f)
    formula_in bound (raw.And f g) = And (formula_in bound f) (formula_in bound g)
    formula_in bound (raw.Or f g) = Or (formula_in bound f) (formula_in bound g)
    formula_in bound (raw.Implies f g) = Implies (formula_in bound f) (formula_in bound g)
    formula_in bound (raw.Equivalent f g) = Iff (formula_in bound f) (formula_in bound g)
    formula_in bound (raw.Relation r p a b) = related r (term_in bound a) (term_in bound b)
    formula_in bound (raw.Every x d f) =
        Every (name_of x) (or_integer (typing_kind symbols (under bound x) (name_of x) d))
        (Implies (formula_in (under bound x) d) (formula_in (under bound x) f))
    formula_in bound (raw.Exists x f) =
        Exist (name_of x) (or_integer (typing_kind symbols (under bound x) (name_of x) f)) (formula_in (under bound x) f)

-- ---- arguments among names with these kinds. A name that is not among them, and is no set, element or constant, has no kind

abbrev pub formula_argument : Symbols → List ℕ → List (Name × Kind) → RawFormulaTree → Option FormulaTree
formula_argument symbols sizes names f = if is_clear symbols [] f && fits sizes names [] (formula_in symbols [] f) then Some (formula_in symbols [] f) else None

abbrev pub with_kind : TermTree → Option Kind → Option (TermTree × Kind)
with_kind t None = None
with_kind t (Some k) = Some (t, k)

abbrev pub term_argument : Symbols → List ℕ → List (Name × Kind) → RawTermTree → Option (TermTree × Kind)
term_argument symbols sizes names t = if term_is_clear symbols [] t then with_kind (term_in symbols [] t) (kind_of sizes names [] (term_in symbols [] t)) else None
