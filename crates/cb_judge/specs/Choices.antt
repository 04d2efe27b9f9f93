-- Domains of names, as typing conjuncts and domains tell them.
use Rattle.std.specs.Prelude.{ℕ, ℤ, pos, neg_ℤ, ◌-ℤ◌, ◌^◌, int_lt, int_le, nat_lt, Bool, true, false, List, Option, Some, None, is_none, if◌then◌else◌, bytes_eq}
use Rattle.std.specs.Ordering.{int_eq}
use Rattle.cb_lex.specs.declared.token.Place.{Place}
use Rattle.cb_lex.specs.declared.raw.domain.RawBound.{RawBound}
use Rattle.cb_lex.specs.declared.raw.domain.RawDomain.{RawDomain}
use Rattle.cb_lex.specs.declared.raw.domain.RawDomain.TheVariants as raw_domain
use Rattle.cb_lex.specs.declared.raw.domain.RawEnd.{RawEnd}
use Rattle.cb_lex.specs.declared.raw.domain.RawEnd.TheVariants as raw_end
use Rattle.cb_lex.specs.declared.raw.name.RawName.{RawName}
use Rattle.cb_lex.specs.declared.raw.sign.RawAtom.{RawAtom}
use Rattle.cb_lex.specs.declared.raw.sign.RawAtom.TheVariants.{MaxInt, MinInt, Nat, Nat1, Int, Truths}
use Rattle.cb_lex.specs.declared.raw.sign.RawOperator.TheVariants.{UpTo}
use Rattle.cb_lex.specs.declared.raw.sign.RawRelation.{RawRelation}
use Rattle.cb_lex.specs.declared.raw.sign.RawRelation.TheVariants.{Member, Subset}
use Rattle.cb_lex.specs.RawTermTree.{RawTermTree, Number, Name, Atom, Binary, Minus, RawFormulaTree, And, Relation}
use Rattle.cb_term.specs.declared.kind.Domain.{Domain}
use Rattle.cb_term.specs.declared.kind.Domain.TheVariants as domain
use Rattle.cb_forms.specs.declared.form.Form.{Form as Known}
use Rattle.cb_forms.specs.declared.form.Form.TheVariants as known
use Rattle.cb_forms.specs.Faults.{Faults, Nowhere, Both, fault_if}
use Rattle.cb_forms.specs.Find.{found}
use Rattle.cb_forms.specs.Kinds.{nought}
use Rattle.cb_judge.specs.declared.domain.Choice.{Choice}
use Rattle.cb_judge.specs.declared.names.View.{View}
use Rattle.cb_judge.specs.Meanings.{Names, known_number, known_set}

abbrev pub maxint : ℤ
maxint = pos 2147483647

-- the number with the other sign, where 64 bits hold it
abbrev pub signed_of : Bool → Option ℤ → Option ℤ
signed_of minus None = None
signed_of minus (Some n) = if minus then (if int_eq n (neg_ℤ (pos (2 ^ 63))) then None else Some (neg_ℤ n)) else Some n

-- the number of a literal or a constant
abbrev pub plain_bound : View → Names → RawTermTree → Option ℤ
plain_bound v names (Number n p) = Some n
plain_bound v names (Name x) = known_number v (found x.text names)
plain_bound v names (Atom MaxInt p) = Some maxint
plain_bound v names (Atom MinInt p) = Some (neg_ℤ maxint)
plain_bound v names t = None

-- the same, with a minus or without
abbrev pub bound : View → Names → RawTermTree → Option ℤ
bound v names (Minus p t) = signed_of true (plain_bound v names t)
bound v names t = plain_bound v names t

abbrev pub choice : Domain → ℕ → Choice
choice d size = record { domain = d; size = size }

abbrev pub range_of : Option ℤ → Option ℤ → Option Choice
range_of (Some lo) (Some hi) = Some (choice (domain.Range lo hi) 0)
range_of a b = None

abbrev pub subset_of : Option ℤ → Option ℤ → Option Choice
subset_of (Some lo) (Some hi) = Some (choice (domain.Subsets lo hi) 0)
subset_of a b = None

abbrev pub elements_of : Option (ℕ × ℕ) → Option Choice
elements_of None = None
elements_of (Some s) = Some (choice (domain.Elems s.0) s.1)

abbrev pub element_sets_of : Option (ℕ × ℕ) → Option Choice
element_sets_of None = None
element_sets_of (Some s) = Some (choice (domain.ElemSubsets s.0) s.1)

abbrev pub whole_of : RawAtom → Option Choice
whole_of Nat = Some (choice (domain.Range (pos 0) maxint) 0)
whole_of Nat1 = Some (choice (domain.Range (pos 1) maxint) 0)
whole_of Int = Some (choice (domain.Range (neg_ℤ maxint) maxint) 0)
whole_of Truths = Some (choice domain.Truth 0)
whole_of a = None

-- what stands to the right of `:` in a typing conjunct
abbrev pub member_choice : View → Names → RawTermTree → Option Choice
member_choice v names (Binary UpTo p a b) = range_of (bound v names a) (bound v names b)
member_choice v names (Atom a p) = whole_of a
member_choice v names (Name x) = elements_of (known_set v (found x.text names))
member_choice v names t = None

-- what stands to the right of `<:` in a typing conjunct
abbrev pub subset_choice : View → Names → RawTermTree → Option Choice
subset_choice v names (Binary UpTo p a b) = subset_of (bound v names a) (bound v names b)
subset_choice v names (Name x) = element_sets_of (known_set v (found x.text names))
subset_choice v names t = None

abbrev pub given_by : View → Names → RawRelation → RawTermTree → Option Choice
given_by v names Member t = member_choice v names t
given_by v names Subset t = subset_choice v names t
given_by v names r t = None

abbrev pub is_name : List ℕ → RawTermTree → Bool
is_name x (Name y) = bytes_eq x y.text
is_name x t = false

abbrev pub or_choice : Option Choice → Option Choice → Option Choice
or_choice None b = b
or_choice (Some c) b = Some c

-- the first typing conjunct of the name in the formula's top conjunction
abbrev pub typing_in : View → Names → List ℕ → RawFormulaTree → Option Choice
typing_in v names x (And f g) = or_choice (typing_in v names x f) (typing_in v names x g)
typing_in v names x (Relation r p a b) = if is_name x a then given_by v names r b else None
typing_in v names x f = None

abbrev pub reaches : ℤ → ℤ → ℤ → Bool
reaches most lo hi = int_le most (hi -ℤ lo)

abbrev pub is_empty : Domain → Bool
is_empty (domain.Range lo hi) = int_lt hi lo
is_empty (domain.Subsets lo hi) = int_lt hi lo
is_empty d = false

-- there is no domain, or none with a value
abbrev pub lacks : Option Choice → Bool
lacks None = true
lacks (Some c) = is_empty c.domain

-- a domain with more than 65536 values; of 17 items there are more sets
abbrev pub many : Domain → ℕ → Bool
many (domain.Range lo hi) size = reaches (pos 65536) lo hi
many (domain.Subsets lo hi) size = reaches (pos 16) lo hi
many (domain.Elems set) size = nat_lt 65536 size
many (domain.ElemSubsets set) size = nat_lt 16 size
many d size = false

abbrev pub has_many : Option Choice → Bool
has_many None = false
has_many (Some c) = many c.domain c.size

-- a domain of sets that may have more than 256 elements
abbrev pub big : Domain → ℕ → Bool
big (domain.Subsets lo hi) size = reaches (pos 256) lo hi
big (domain.ElemSubsets set) size = nat_lt 256 size
big d size = false

abbrev pub has_big : Option Choice → Bool
has_big None = false
has_big (Some c) = big c.domain c.size

abbrev pub known_of_domain : Domain → Known
known_of_domain (domain.Range lo hi) = known.Number (record { lo = lo; hi = hi })
known_of_domain domain.Truth = known.Truth
known_of_domain (domain.Elems set) = known.Element set
known_of_domain (domain.Subsets lo hi) = known.Numbers (record { lo = lo; hi = hi })
known_of_domain (domain.ElemSubsets set) = known.Elements set

-- the form of a name with the domain; 0 stands for a name without, until that is the fault
abbrev pub form_or_nought : Option Choice → Known
form_or_nought None = known.Number nought
form_or_nought (Some c) = known_of_domain c.domain

-- no domain, one with too many values, one of too big sets
abbrev pub choice_faults : Option Choice → Place → Faults
choice_faults c p = Both (fault_if (lacks c) 3 p) (Both (fault_if (has_many c) 11 p) (fault_if (has_big c) 12 p))

abbrev pub end_of : View → Names → RawEnd → Option ℤ
end_of v names (raw_end.Number n p) = Some n
end_of v names (raw_end.MaxInt p) = Some maxint
end_of v names (raw_end.MinInt p) = Some (neg_ℤ maxint)
end_of v names (raw_end.Name x) = known_number v (found x.text names)

abbrev pub bound_of : View → Names → RawBound → Option ℤ
bound_of v names b = signed_of b.minus (end_of v names b.end)

-- the domain that is written after `::`
abbrev pub domain_in : View → Names → RawDomain → Option Choice
domain_in v names (raw_domain.Range low high) = range_of (bound_of v names low) (bound_of v names high)
domain_in v names (raw_domain.Nat p) = whole_of Nat
domain_in v names (raw_domain.Nat1 p) = whole_of Nat1
domain_in v names (raw_domain.Int p) = whole_of Int
domain_in v names (raw_domain.Truths p) = whole_of Truths
domain_in v names (raw_domain.Name x) = elements_of (known_set v (found x.text names))

-- an end of a range that is a name and no constant
abbrev pub unknown_end : View → Names → RawEnd → Faults
unknown_end v names (raw_end.Name x) = fault_if (is_none (known_number v (found x.text names))) 2 x.place
unknown_end v names e = Nowhere

-- a name in a domain that is no constant, or no set
abbrev pub unknown_in : View → Names → RawDomain → Faults
unknown_in v names (raw_domain.Range low high) = Both (unknown_end v names low.end) (unknown_end v names high.end)
unknown_in v names (raw_domain.Name x) = fault_if (is_none (known_set v (found x.text names))) 2 x.place
unknown_in v names d = Nowhere
