-- What a domain holds, and the conjunct of a formula that gives a name its domain.
-- `sizes` has the number of elements of each enumerated set.
use Rattle.std.specs.Prelude.{ℕ, ◌<◌, ℤ, ◌≤ℤ◌, List, [], ◌∷◌, ⊤}
use Rattle.cb_term.specs.declared.kind.Kind.{Kind}
use Rattle.cb_term.specs.declared.kind.Kind.TheVariants as kind
use Rattle.cb_term.specs.declared.kind.Base.TheVariants as base
use Rattle.cb_term.specs.declared.kind.Domain.{Domain}
use Rattle.cb_term.specs.declared.kind.Domain.TheVariants as domain
use Rattle.cb_term.specs.declared.sign.TermSign.TheVariants as sign
use Rattle.cb_term.specs.declared.sign.RelSign.TheVariants.{Member, Subset}
use Rattle.cb_term.specs.declared.value.Value.{Value}
use Rattle.cb_term.specs.declared.value.Value.TheVariants as value
use Rattle.cb_term.specs.Sets.{IsAscending}
use Rattle.cb_term.specs.Tree.{TermTree, FormulaTree}
use Rattle.cb_term.specs.Tree as tree
use Rattle.cb_term.specs.Values.{size_of_set, AreItems}

-- the kind of the domain's values
abbrev pub kind_of_domain : Domain → Kind
kind_of_domain (domain.Range lo hi) = kind.Integer
kind_of_domain domain.Truth = kind.Truth
kind_of_domain (domain.Elems set) = kind.Elem set
kind_of_domain (domain.Subsets lo hi) = kind.SetOf base.Integer
kind_of_domain (domain.ElemSubsets set) = kind.SetOf (base.Elem set)

abbrev pub Within : ℤ → ℤ → ℤ → Type 0
Within lo hi x = (lo ≤ℤ x) × (x ≤ℤ hi)

abbrev pub AllWithin : ℤ → ℤ → List ℤ → Type 0
AllWithin lo hi [] = ⊤
AllWithin lo hi (x ∷ xs) = Within lo hi x × AllWithin lo hi xs

-- the value is one of the domain
abbrev pub In : List ℕ → Domain → Value → Type 0
In sizes (domain.Range lo hi) (value.Int x) = Within lo hi x
In sizes domain.Truth (value.Truth b) = ⊤
In sizes (domain.Elems set) (value.Elem k) = k < size_of_set sizes set
In sizes (domain.Subsets lo hi) (value.Set xs) = IsAscending xs × AllWithin lo hi xs
In sizes (domain.ElemSubsets set) (value.Set xs) = IsAscending xs × AreItems sizes (base.Elem set) xs
In sizes d v = ⊥

-- no range is empty, and no set without elements
abbrev pub HasElements : List ℕ → Domain → Type 0
HasElements sizes (domain.Range lo hi) = lo ≤ℤ hi
HasElements sizes domain.Truth = ⊤
HasElements sizes (domain.Elems set) = 0 < size_of_set sizes set
HasElements sizes (domain.Subsets lo hi) = lo ≤ℤ hi
HasElements sizes (domain.ElemSubsets set) = 0 < size_of_set sizes set

-- the conjunct that says of the term that its value is in the domain
abbrev pub typing : TermTree → Domain → FormulaTree
typing t (domain.Range lo hi) = tree.Rel Member t (tree.Bin sign.Range (tree.Num lo) (tree.Num hi))
typing t domain.Truth = tree.Rel Member t tree.Truths
typing t (domain.Elems set) = tree.Rel Member t (tree.Elems set)
typing t (domain.Subsets lo hi) = tree.Rel Subset t (tree.Bin sign.Range (tree.Num lo) (tree.Num hi))
typing t (domain.ElemSubsets set) = tree.Rel Subset t (tree.Elems set)
