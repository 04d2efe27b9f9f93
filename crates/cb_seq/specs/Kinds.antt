-- The kind of a term, and which formulas fit, where names have kinds.
use Rattle.std.specs.Prelude.{ℕ, ◌≡◌, ◌==◌, Bool, true, false, ◌&&◌, List, [], ◌∷◌, length, Option, Some, None, if◌then◌else◌, slice_get, nat_lt, is_some, ⊤}
use Rattle.cb_term.specs.declared.name.Name.{Name}
use Rattle.cb_term.specs.declared.kind.Kind.{Kind}
use Rattle.cb_term.specs.declared.kind.Kind.TheVariants as kind
use Rattle.cb_term.specs.declared.kind.Base.{Base}
use Rattle.cb_term.specs.declared.kind.Base.TheVariants as base
use Rattle.cb_term.specs.declared.sign.TermSign.{TermSign}
use Rattle.cb_term.specs.declared.sign.TermSign.TheVariants.{Add, Minus, Mul, Div, Mod, Range, Union, Inter}
use Rattle.cb_term.specs.declared.sign.RelSign.{RelSign}
use Rattle.cb_term.specs.declared.sign.RelSign.TheVariants.{Equal, Less, AtMost, Member, Subset}
use Rattle.cb_term.specs.declared.value.Value.{Value}
use Rattle.cb_term.specs.Names.{same_name}
use Rattle.cb_term.specs.Kinds.{same_base}
use Rattle.cb_term.specs.Tree.{TermTree, Var, Bound, Num, Truth, Elem, Bin, Neg, Card, Listed, Elems, Truths, Test, TermTrees, End, More, FormulaTree, True, False, Rel, Not, And, Or, Implies, Iff, Every, Exist}
use Rattle.cb_term.specs.Values.{Look, size_of_set, IsOf}

-- the kind of a name
abbrev pub kind_in : List (Name × Kind) → Name → Option Kind
kind_in [] x = None
kind_in (n ∷ ns) x = if same_name x n.0 then Some n.1 else kind_in ns x

-- what a set of values of this kind holds
abbrev pub base_of : Kind → Option Base
base_of kind.Integer = Some base.Integer
base_of kind.Truth = Some base.Truth
base_of (kind.Elem set) = Some (base.Elem set)
base_of k = None

-- the kind of two sets that may be compared and joined. `{}` is of every kind of sets
abbrev pub common_set : Kind → Kind → Option Kind
common_set (kind.SetOf b) (kind.SetOf c) = if same_base b c then Some (kind.SetOf b) else None
common_set (kind.SetOf b) kind.EmptySet = Some (kind.SetOf b)
common_set kind.EmptySet (kind.SetOf b) = Some (kind.SetOf b)
common_set kind.EmptySet kind.EmptySet = Some kind.EmptySet
common_set k l = None

-- ---- the kinds that the signs make and take

abbrev pub bin_kind : TermSign → Kind → Kind → Option Kind
bin_kind Add kind.Integer kind.Integer = Some kind.Integer
bin_kind Minus kind.Integer kind.Integer = Some kind.Integer
bin_kind Minus k l = common_set k l
bin_kind Mul kind.Integer kind.Integer = Some kind.Integer
bin_kind Div kind.Integer kind.Integer = Some kind.Integer
bin_kind Mod kind.Integer kind.Integer = Some kind.Integer
bin_kind Range kind.Integer kind.Integer = Some (kind.SetOf base.Integer)
bin_kind Union k l = common_set k l
bin_kind Inter k l = common_set k l
bin_kind sign k l = None

abbrev pub neg_kind : Kind → Option Kind
neg_kind kind.Integer = Some kind.Integer
neg_kind k = None

abbrev pub card_kind : Kind → Option Kind
card_kind (kind.SetOf b) = Some kind.Integer
card_kind kind.EmptySet = Some kind.Integer
card_kind k = None

-- the kind of a listed set, from those of its first term and of the set of the others
abbrev pub more_kind : Kind → Kind → Option Kind
more_kind kind.Integer l = common_set (kind.SetOf base.Integer) l
more_kind kind.Truth l = common_set (kind.SetOf base.Truth) l
more_kind (kind.Elem set) l = common_set (kind.SetOf (base.Elem set)) l
more_kind k l = None

abbrev pub is_base : Base → Option Base → Bool
is_base b None = false
is_base b (Some c) = same_base b c

abbrev pub rel_kinds : RelSign → Kind → Kind → Bool
rel_kinds Equal kind.Integer kind.Integer = true
rel_kinds Equal kind.Truth kind.Truth = true
rel_kinds Equal (kind.Elem j) (kind.Elem k) = j == k
rel_kinds Equal k l = is_some (common_set k l)
rel_kinds Less kind.Integer kind.Integer = true
rel_kinds AtMost kind.Integer kind.Integer = true
rel_kinds Member k (kind.SetOf b) = is_base b (base_of k)
rel_kinds Member k kind.EmptySet = is_some (base_of k)
rel_kinds Subset k l = is_some (common_set k l)
rel_kinds sign k l = false

-- ---- terms and formulas

abbrev pub one_kind : (Kind → Option Kind) → Option Kind → Option Kind
one_kind g None = None
one_kind g (Some k) = g k

abbrev pub both_kinds : (Kind → Kind → Option Kind) → Option Kind → Option Kind → Option Kind
both_kinds g None p = None
both_kinds g (Some k) None = None
both_kinds g (Some k) (Some l) = g k l

abbrev pub both_fit : (Kind → Kind → Bool) → Option Kind → Option Kind → Bool
both_fit g None p = false
both_fit g (Some k) None = false
both_fit g (Some k) (Some l) = g k l

-- `sizes` has the number of elements of each enumerated set, `names` have their kinds, and `ks` are the kinds of the bound
-- variables, the innermost first
module _ (sizes : List ℕ) (names : List (Name × Kind)) where
  abbrev mutual
    -- the kind of the term. None where it has a name that is not among the names, a loose bound variable, a set or an element
    -- that is not in the table, or parts whose kinds do not agree
    pub kind_of : List Kind → TermTree → Option Kind
    kind_of ks (Var x) = kind_in names x
    kind_of ks (Bound j) = slice_get ks j
    kind_of ks (Num n) = Some kind.Integer
    kind_of ks (Truth b) = Some kind.Truth
    kind_of ks (Elem set index) = if nat_lt index (size_of_set sizes set) then Some (kind.Elem set) else None
    kind_of ks (Bin sign a b) = both_kinds (bin_kind sign) (kind_of ks a) (kind_of ks b)
    kind_of ks (Neg a) = one_kind neg_kind (kind_of ks a)
    kind_of ks (Card a) = one_kind card_kind (kind_of ks a)
    kind_of ks (Listed ts) = kind_of_all ks ts
    kind_of ks (Elems set) = if nat_lt set (length sizes) then Some (kind.SetOf (base.Elem set)) else None
    kind_of ks Truths = Some (kind.SetOf base.Truth)
    kind_of ks (Test f) = if fits ks f then Some kind.Truth else None

    pub kind_of_all : List Kind → TermTrees → Option Kind
    kind_of_all ks End = Some kind.EmptySet
    kind_of_all ks (More t ts) = both_kinds more_kind (kind_of ks t) (kind_of_all ks ts)

    -- whether each term of the formula has a kind that its place takes
    pub fits : List Kind → FormulaTree → Bool
    fits ks True = true
    fits ks False = true
    fits ks (Rel sign a b) = both_fit (rel_kinds sign) (kind_of ks a) (kind_of ks b)
    fits ks (Not f) = fits ks f
    fits ks (And f g) = fits ks f && fits ks g
    fits ks (Or f g) = fits ks f && fits ks g
    fits ks (Implies f g) = fits ks f && fits ks g
    fits ks (Iff f g) = fits ks f && fits ks g
    fits ks (Every x k f) = fits (k ∷ ks) f
    fits ks (Exist x k f) = fits (k ∷ ks) f

-- ---- look-ups

-- each name has a value of its kind
abbrev pub Gives : List ℕ → Look → List (Name × Kind) → Type 0
Gives sizes look names = (x : Name) (k : Kind) → kind_in names x ≡ Some k → IsOf sizes k (look x)

-- the values are of these kinds
abbrev pub AreOf : List ℕ → List Kind → List Value → Type 0
AreOf sizes [] vs = ⊤
AreOf sizes (k ∷ ks) [] = ⊥
AreOf sizes (k ∷ ks) (v ∷ vs) = IsOf sizes k v × AreOf sizes ks vs
