-- The values of a domain in ascending order, sets in the order of their bits, and the domain that a formula gives a variable.
use Rattle.std.specs.Prelude.{ℕ, zero, suc, ◌+◌, ◌%◌, ◌/◌, ◌^◌, ◌==◌, ℤ, pos, ◌+ℤ◌, int_le, nat_le, Bool, true, false, if◌then◌else◌, List, [], ◌∷◌, Option, Some, None}
use Rattle.std.specs.Int.{int_min, int_max, int_gap}
use Rattle.cb_term.specs.declared.kind.Kind.{Kind}
use Rattle.cb_term.specs.declared.kind.Domain.{Domain}
use Rattle.cb_term.specs.declared.kind.Domain.TheVariants as domain
use Rattle.cb_term.specs.declared.sign.TermSign.TheVariants as sign
use Rattle.cb_term.specs.declared.sign.RelSign.{RelSign}
use Rattle.cb_term.specs.declared.sign.RelSign.TheVariants.{Member, Subset}
use Rattle.cb_term.specs.declared.value.Value.{Value}
use Rattle.cb_term.specs.declared.value.Value.TheVariants as value
use Rattle.cb_term.specs.Kinds.{same_kind}
use Rattle.cb_term.specs.Tree.{FormulaTree, TermTree, Bound, Bin, Elems, Truths, Rel, And}
use Rattle.cb_term.specs.Values.{size_of_set}
use Rattle.cb_spec.specs.Domains.{kind_of_domain}
use Rattle.cb_spec.specs.TypedTerms.{literal}
use Rattle.cb_eval.specs.ClosedTruth.{with_one, with_two}

-- how many numbers there are from lo to hi
abbrev pub span : ℤ → ℤ → ℕ
span lo hi = if int_le lo hi then int_gap lo hi + 1 else 0

-- how many values the domain has
abbrev pub count_of : List ℕ → Domain → ℕ
count_of sizes (domain.Range lo hi) = span lo hi
count_of sizes domain.Truth = 2
count_of sizes (domain.Elems set) = size_of_set sizes set
count_of sizes (domain.Subsets lo hi) = 2 ^ span lo hi
count_of sizes (domain.ElemSubsets set) = 2 ^ size_of_set sizes set

-- of the n numbers from x on those whose bit is set
abbrev pub picked : ℤ → ℕ → ℕ → List ℤ
picked x zero bits = []
picked x (suc n) bits = if (bits % 2) == 1 then x ∷ picked (x +ℤ pos 1) n (bits / 2) else picked (x +ℤ pos 1) n (bits / 2)

-- the value with this number
abbrev pub value_number : List ℕ → Domain → ℕ → Value
value_number sizes (domain.Range lo hi) i = value.Int (lo +ℤ pos i)
value_number sizes domain.Truth i = value.Truth (i == 1)
value_number sizes (domain.Elems set) i = value.Elem i
value_number sizes (domain.Subsets lo hi) i = value.Set (picked lo (span lo hi) i)
value_number sizes (domain.ElemSubsets set) i = value.Set (picked (pos 0) (size_of_set sizes set) i)

-- whether the domain is small enough to be gone over: 65536 values at most
abbrev pub is_walkable : List ℕ → Domain → Bool
is_walkable sizes (domain.Range lo hi) = nat_le (span lo hi) 65536
is_walkable sizes domain.Truth = true
is_walkable sizes (domain.Elems set) = nat_le (size_of_set sizes set) 65536
is_walkable sizes (domain.Subsets lo hi) = nat_le (span lo hi) 16
is_walkable sizes (domain.ElemSubsets set) = nat_le (size_of_set sizes set) 16

-- what two domains of one kind have in common
abbrev pub meet : Domain → Domain → Domain
meet (domain.Range lo hi) (domain.Range lo' hi') = domain.Range (int_max lo lo') (int_min hi hi')
meet (domain.Subsets lo hi) (domain.Subsets lo' hi') = domain.Subsets (int_max lo lo') (int_min hi hi')
meet d e = d

abbrev pub meet_found : Option Domain → Option Domain → Option Domain
meet_found None o = o
meet_found (Some d) None = Some d
meet_found (Some d) (Some e) = Some (meet d e)

abbrev pub of_kind : Kind → Domain → Option Domain
of_kind kind d = if same_kind (kind_of_domain d) kind then Some d else None

-- the domain of which the relation to the term makes a value one
abbrev pub typing_domain : RelSign → TermTree → Option Domain
typing_domain Member (Bin sign.Range a b) = with_two (literal a) (literal b) (λ lo hi. Some (domain.Range lo hi))
typing_domain Member Truths = Some domain.Truth
typing_domain Member (Elems set) = Some (domain.Elems set)
typing_domain Subset (Bin sign.Range a b) = with_two (literal a) (literal b) (λ lo hi. Some (domain.Subsets lo hi))
typing_domain Subset (Elems set) = Some (domain.ElemSubsets set)
typing_domain sign t = None

abbrev pub is_innermost : TermTree → Bool
is_innermost (Bound j) = j == 0
is_innermost t = false

-- what the typing conjuncts of the kind have in common that speak of the innermost variable
abbrev pub domain_in : Kind → FormulaTree → Option Domain
domain_in kind (And f g) = meet_found (domain_in kind f) (domain_in kind g)
domain_in kind (Rel sign a b) = if is_innermost a then with_one (typing_domain sign b) (of_kind kind) else None
domain_in kind f = None

abbrev pub if_walkable : List ℕ → Option Domain → Option Domain
if_walkable sizes None = None
if_walkable sizes (Some d) = if is_walkable sizes d then Some d else None

-- the same, where it is small enough
abbrev pub walked_domain : List ℕ → Kind → FormulaTree → Option Domain
walked_domain sizes kind f = if_walkable sizes (domain_in kind f)
