-- Kinds and intervals of terms as they are written. `None` is the kind of a term that does not tell it: such a term suits everything.
use Rattle.std.specs.Prelude.{ℤ, pos, Bool, true, false, not, ◌&&◌, ◌||◌, int_lt, Option, Some, None, if◌then◌else◌}
use Rattle.cb_lex.specs.declared.token.Place.{Place}
use Rattle.cb_lex.specs.declared.raw.sign.RawOperator.{RawOperator}
use Rattle.cb_lex.specs.declared.raw.sign.RawOperator.TheVariants.{Plus, Minus, Times, Divide, Mod, UpTo, Union, Intersection}
use Rattle.cb_lex.specs.declared.raw.sign.RawRelation.{RawRelation}
use Rattle.cb_lex.specs.declared.raw.sign.RawRelation.TheVariants as relation
use Rattle.cb_spec.specs.Forms.{Form, Number, Truth, Element, Numbers, TruthSet, Elements, Empty, joined_form, single, left_set, is_some_form, with_both, may_relate}
use Rattle.cb_term.specs.declared.sign.RelSign.TheVariants.{Equal}
use Rattle.cb_forms.specs.declared.span.Span.{Span}
use Rattle.cb_forms.specs.declared.form.Form.{Form as Known}
use Rattle.cb_forms.specs.declared.form.Form.TheVariants as known
use Rattle.cb_forms.specs.Faults.{Faults, Nowhere, Both, fault_if}
use Rattle.cb_forms.specs.Spans.{leaves, added, taken, scaled, divided, rest_of, has_more}

-- what is kept of a form, as a form
abbrev pub form_of : Known → Form
form_of (known.Number s) = Number s.lo s.hi
form_of known.Truth = Truth
form_of (known.Element set) = Element set
form_of (known.Numbers s) = Numbers s.lo s.hi
form_of known.TruthSet = TruthSet
form_of (known.Elements set) = Elements set
form_of known.Empty = Empty

abbrev pub maybe_form : Option Known → Option Form
maybe_form None = None
maybe_form (Some f) = Some (form_of f)

abbrev pub nought : Span
nought = record { lo = pos 0; hi = pos 0 }

abbrev pub number : Span → Form
number s = Number s.lo s.hi

-- the interval of a number; where a term is none, 0 stands for it until that is the fault
abbrev pub span_of : Option Form → Span
span_of (Some (Number lo hi)) = record { lo = lo; hi = hi }
span_of a = nought

abbrev pub is_number : Form → Bool
is_number (Number lo hi) = true
is_number a = false

abbrev pub is_set : Form → Bool
is_set (Numbers lo hi) = true
is_set TruthSet = true
is_set (Elements set) = true
is_set Empty = true
is_set a = false

-- what may stand in a set
abbrev pub is_item : Form → Bool
is_item a = not (is_set a)

abbrev pub is_number_or_set : Form → Bool
is_number_or_set a = is_number a || is_set a

abbrev pub may_be : (Form → Bool) → Option Form → Bool
may_be test None = true
may_be test (Some a) = test a

-- the kinds agree
abbrev pub may_meet : Option Form → Option Form → Bool
may_meet (Some a) (Some b) = may_relate Equal a b
may_meet a b = true

abbrev pub or_form : Option Form → Form → Form
or_form None a = a
or_form (Some b) a = b

-- the form of a set's sign, which goes by its left operand where the kinds do not agree
abbrev pub set_form : (Form → Form → Option Form) → Option Form → Option Form → Option Form
set_form g None b = None
set_form g (Some a) None = if is_set a then Some a else None
set_form g (Some a) (Some b) = if is_set a then Some (or_form (g a b) a) else None

abbrev pub minus_form : Option Form → Option Form → Option Form
minus_form (Some (Number lo hi)) b = Some (number (taken (record { lo = lo; hi = hi }) (span_of b)))
minus_form a b = set_form left_set a b

abbrev pub is_positive : Option ℤ → Bool
is_positive None = false
is_positive (Some d) = int_lt (pos 0) d

abbrev pub divided_by : Span → Option ℤ → Span
divided_by s None = s
divided_by s (Some d) = if is_positive (Some d) then divided s d else s

abbrev pub rests_by : Span → Option ℤ → Span
rests_by s None = s
rests_by s (Some d) = if is_positive (Some d) then rest_of d else s

-- the form of a sign's term. `d` is the number that the right operand is, if it is a literal
abbrev pub binary_form : RawOperator → Option ℤ → Option Form → Option Form → Option Form
binary_form Plus d a b = Some (number (added (span_of a) (span_of b)))
binary_form Minus d a b = minus_form a b
binary_form Times d a b = Some (number (scaled (span_of a) (span_of b)))
binary_form Divide d a b = Some (number (divided_by (span_of a) d))
binary_form Mod d a b = Some (number (rests_by (span_of a) d))
binary_form UpTo d a b = Some (Numbers (span_of a).lo (span_of b).hi)
binary_form Union d a b = set_form joined_form a b
binary_form Intersection d a b = set_form left_set a b

-- a set with one more item; an item that does not suit it is left out
abbrev pub with_item : Form → Option Form → Form
with_item done None = done
with_item done (Some a) = or_form (with_both (Some done) (single a) joined_form) done

-- the item is no set, and of the kind of the items before it
abbrev pub suits : Form → Option Form → Bool
suits done None = true
suits done (Some a) = is_item a && is_some_form (with_both (Some done) (single a) joined_form)

-- a term that is not as it has to be
abbrev pub wrong : (Form → Bool) → Option Form → Place → Faults
wrong test a p = fault_if (not (may_be test a)) 5 p

-- the second operand is right by itself, and where the first is, they are right together
abbrev pub fits : (Form → Bool) → Option Form → Option Form → Bool
fits test a b = may_be test b && (not (may_be test a) || may_meet a b)

-- an operand of the wrong kind
abbrev pub operand_fault : RawOperator → Option Form → Place → Option Form → Place → Faults
operand_fault Minus a p b q = Both (wrong is_number_or_set a p) (fault_if (not (fits is_number_or_set a b)) 5 q)
operand_fault Union a p b q = Both (wrong is_set a p) (fault_if (not (fits is_set a b)) 5 q)
operand_fault Intersection a p b q = Both (wrong is_set a p) (fault_if (not (fits is_set a b)) 5 q)
operand_fault operator a p b q = Both (wrong is_number a p) (wrong is_number b q)

-- the right side is a set, and where the left side is no set, it is of the kind of the items
abbrev pub may_hold : Option Form → Option Form → Bool
may_hold a None = true
may_hold None (Some b) = is_set b
may_hold (Some a) (Some b) = is_set b && (is_set a || is_some_form (with_both (Some b) (single a) joined_form))

-- a side of the wrong kind
abbrev pub side_fault : RawRelation → Option Form → Place → Option Form → Place → Faults
side_fault relation.Equal a p b q = fault_if (not (may_meet a b)) 5 q
side_fault relation.Unequal a p b q = fault_if (not (may_meet a b)) 5 q
side_fault relation.Member a p b q = Both (wrong is_item a p) (fault_if (not (may_hold a b)) 5 q)
side_fault relation.NotMember a p b q = Both (wrong is_item a p) (fault_if (not (may_hold a b)) 5 q)
side_fault relation.Subset a p b q = Both (wrong is_set a p) (fault_if (not (fits is_set a b)) 5 q)
side_fault r a p b q = Both (wrong is_number a p) (wrong is_number b q)

-- a divisor that is no positive literal, or a dividend that may be negative
abbrev pub divisor_fault : RawOperator → Option Form → Option ℤ → Place → Faults
divisor_fault Divide a d p = fault_if (not (is_positive d) || int_lt (span_of a).lo (pos 0)) 7 p
divisor_fault Mod a d p = fault_if (not (is_positive d) || int_lt (span_of a).lo (pos 0)) 7 p
divisor_fault operator a d p = Nowhere

-- a number that may be too far from 0, a set that may have more than 256 numbers
abbrev pub size_fault : Option Form → Place → Faults
size_fault (Some (Number lo hi)) p = fault_if (leaves (record { lo = lo; hi = hi })) 6 p
size_fault (Some (Numbers lo hi)) p = fault_if (has_more (pos 256) (record { lo = lo; hi = hi })) 12 p
size_fault a p = Nowhere
