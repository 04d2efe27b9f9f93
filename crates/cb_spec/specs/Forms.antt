-- What is known of a term before anything runs: its kind, and for numbers the least and the greatest that its value can be.
use Rattle.std.specs.Prelude.{ℕ, ◌==◌, ◌^◌, ℤ, pos, ◌+ℤ◌, ◌-ℤ◌, ◌*ℤ◌, neg_ℤ, ◌≤ℤ◌, ◌<ℤ◌, int_lt, int_le, Bool, true, false, ◌&&◌, if◌then◌else◌, Option, Some, None, ⊤}
use Rattle.std.specs.Int.{int_min, int_max, int_div_euclid}
use Rattle.cb_term.specs.declared.kind.Kind.{Kind}
use Rattle.cb_term.specs.declared.kind.Kind.TheVariants as kind
use Rattle.cb_term.specs.declared.kind.Base.TheVariants as base
use Rattle.cb_term.specs.declared.kind.Domain.{Domain}
use Rattle.cb_term.specs.declared.kind.Domain.TheVariants as domain
use Rattle.cb_term.specs.declared.sign.TermSign.{TermSign}
use Rattle.cb_term.specs.declared.sign.TermSign.TheVariants.{Add, Minus, Mul, Div, Mod, Range, Union, Inter}
use Rattle.cb_term.specs.declared.sign.RelSign.{RelSign}
use Rattle.cb_term.specs.declared.sign.RelSign.TheVariants.{Equal, Less, AtMost, Member, Subset}

pub data Form : Type 0 where
  -- a number from the first to the second
  Number : ℤ → ℤ → Form
  Truth : Form
  -- an element of the set with this number
  Element : ℕ → Form
  -- a set of numbers from the first to the second, without any where the first is above the second
  Numbers : ℤ → ℤ → Form
  TruthSet : Form
  -- a set of elements
  Elements : ℕ → Form
  -- the set `{}`, which is of each kind of sets
  Empty : Form

abbrev pub form_of_domain : Domain → Form
form_of_domain (domain.Range lo hi) = Number lo hi
form_of_domain domain.Truth = Truth
form_of_domain (domain.Elems set) = Element set
form_of_domain (domain.Subsets lo hi) = Numbers lo hi
form_of_domain (domain.ElemSubsets set) = Elements set

-- whether a term of the form may stand where one of the kind is wanted
abbrev pub is_of_kind : Form → Kind → Bool
is_of_kind (Number lo hi) kind.Integer = true
is_of_kind Truth kind.Truth = true
is_of_kind (Element j) (kind.Elem k) = j == k
is_of_kind (Numbers lo hi) (kind.SetOf base.Integer) = true
is_of_kind TruthSet (kind.SetOf base.Truth) = true
is_of_kind (Elements j) (kind.SetOf (base.Elem k)) = j == k
is_of_kind Empty (kind.SetOf b) = true
is_of_kind Empty kind.EmptySet = true
is_of_kind form k = false

-- from the less to the greater; an empty interval adds nothing
abbrev pub hull : ℤ → ℤ → ℤ → ℤ → Form
hull lo hi lo' hi' = if int_lt hi lo then Numbers lo' hi' else (if int_lt hi' lo' then Numbers lo hi else Numbers (int_min lo lo') (int_max hi hi'))

-- what has the elements of both, where both are sets of one kind
abbrev pub joined_form : Form → Form → Option Form
joined_form (Numbers lo hi) (Numbers lo' hi') = Some (hull lo hi lo' hi')
joined_form TruthSet TruthSet = Some TruthSet
joined_form (Elements j) (Elements k) = if j == k then Some (Elements j) else None
joined_form Empty Empty = Some Empty
joined_form Empty (Numbers lo hi) = Some (Numbers lo hi)
joined_form Empty TruthSet = Some TruthSet
joined_form Empty (Elements k) = Some (Elements k)
joined_form (Numbers lo hi) Empty = Some (Numbers lo hi)
joined_form TruthSet Empty = Some TruthSet
joined_form (Elements j) Empty = Some (Elements j)
joined_form a b = None

abbrev pub is_some_form : Option Form → Bool
is_some_form None = false
is_some_form (Some a) = true

-- the set of one such value
abbrev pub single : Form → Option Form
single (Number lo hi) = Some (Numbers lo hi)
single Truth = Some TruthSet
single (Element k) = Some (Elements k)
single a = None

abbrev pub with_both : Option Form → Option Form → (Form → Form → Option Form) → Option Form
with_both (Some a) (Some b) g = g a b
with_both a b g = None

-- the left operand's, where both are sets of one kind. `{}` on the left has the kind of the other
abbrev pub left_set : Form → Form → Option Form
left_set Empty (Numbers lo hi) = Some (Numbers (pos 1) (pos 0))
left_set Empty TruthSet = Some TruthSet
left_set Empty (Elements k) = Some (Elements k)
left_set a b = if is_some_form (joined_form a b) then Some a else None

abbrev pub product : ℤ → ℤ → ℤ → ℤ → Form
product a b c d =
    Number (int_min (int_min (a *ℤ c) (a *ℤ d)) (int_min (b *ℤ c) (b *ℤ d))) (int_max (int_max (a *ℤ c) (a *ℤ d)) (int_max (b *ℤ c) (b *ℤ d)))

-- division is by a positive literal, of what is not negative
abbrev pub divides : ℤ → Option ℤ → Bool
divides lo None = false
divides lo (Some d) = int_lt (pos 0) d && int_le (pos 0) lo

abbrev pub literal_or_one : Option ℤ → ℤ
literal_or_one None = pos 1
literal_or_one (Some d) = d

-- the form of a sign's term, where its operands suit it. `literal` is the number that the right operand is, if it is a literal
abbrev pub bin_form : TermSign → Option ℤ → Form → Form → Option Form
bin_form Add literal (Number a b) (Number c d) = Some (Number (a +ℤ c) (b +ℤ d))
bin_form Minus literal (Number a b) (Number c d) = Some (Number (a -ℤ d) (b -ℤ c))
bin_form Minus literal a b = left_set a b
bin_form Mul literal (Number a b) (Number c d) = Some (product a b c d)
bin_form Div literal (Number a b) (Number c d) =
    if divides a literal then Some (Number (int_div_euclid a (literal_or_one literal)) (int_div_euclid b (literal_or_one literal))) else None
bin_form Mod literal (Number a b) (Number c d) = if divides a literal then Some (Number (pos 0) (literal_or_one literal -ℤ pos 1)) else None
bin_form Range literal (Number a b) (Number c d) = Some (Numbers a d)
bin_form Union literal a b = joined_form a b
bin_form Inter literal a b = left_set a b
bin_form sign literal a b = None

abbrev pub neg_form : Form → Option Form
neg_form (Number a b) = Some (Number (neg_ℤ b) (neg_ℤ a))
neg_form a = None

abbrev pub card_form : Form → Option Form
card_form a = if is_some_form (joined_form a a) then Some (Number (pos 0) (pos 256)) else None

-- whether values of these forms may be related
abbrev pub may_relate : RelSign → Form → Form → Bool
may_relate Equal (Number a b) (Number c d) = true
may_relate Equal Truth Truth = true
may_relate Equal (Element j) (Element k) = j == k
may_relate Equal a b = is_some_form (joined_form a b)
may_relate Less (Number a b) (Number c d) = true
may_relate AtMost (Number a b) (Number c d) = true
may_relate Member a b = is_some_form (with_both (single a) (Some b) joined_form)
may_relate Subset a b = is_some_form (joined_form a b)
may_relate sign a b = false

-- numbers keep within 2 ^ 62 of 0, and sets of numbers to an interval of 256
abbrev pub IsSmall : Form → Type 0
IsSmall (Number lo hi) = (neg_ℤ (pos (2 ^ 62)) ≤ℤ lo) × (hi ≤ℤ pos (2 ^ 62))
IsSmall (Numbers lo hi) = (hi -ℤ lo) <ℤ pos 256
IsSmall form = ⊤
