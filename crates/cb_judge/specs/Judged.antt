-- Forms and faults of terms and formulas as they are written.
use Rattle.std.specs.Prelude.{ℕ, ℤ, pos, neg_ℤ, Bool, true, false, not, ◌&&◌, List, length, Option, Some, None, if◌then◌else◌}
use Rattle.cb_lex.specs.declared.token.Place.{Place}
use Rattle.cb_lex.specs.declared.raw.name.RawName.{RawName}
use Rattle.cb_lex.specs.declared.raw.sign.RawAtom.{RawAtom}
use Rattle.cb_lex.specs.declared.raw.sign.RawAtom.TheVariants as atom
use Rattle.cb_lex.specs.declared.raw.sign.RawOperator.{RawOperator}
use Rattle.cb_lex.specs.declared.raw.sign.RawOperator.TheVariants.{UpTo}
use Rattle.cb_lex.specs.declared.raw.sign.RawRelation.{RawRelation}
use Rattle.cb_lex.specs.declared.raw.sign.RawRelation.TheVariants as relation
use Rattle.cb_lex.specs.RawTermTree.{RawTermTree, Number, Name, Atom, Binary, Minus, Card, TruthOf, Listed, RawTerms, End, More, RawFormulaTree, True, False, Not, And, Or, Implies, Equivalent, Relation, Every, Exists}
use Rattle.cb_spec.specs.Forms.{Form}
use Rattle.cb_spec.specs.Forms as form
use Rattle.cb_forms.specs.declared.form.Form.{Form as Known}
use Rattle.cb_forms.specs.Faults.{Faults, Nowhere, Both, fault_if}
use Rattle.cb_forms.specs.Find.{found, beside}
use Rattle.cb_forms.specs.Kinds.{number, span_of, is_number, is_set, binary_form, with_item, suits, wrong, operand_fault, side_fault, divisor_fault, size_fault}
use Rattle.cb_forms.specs.Spans.{negated}
use Rattle.cb_judge.specs.declared.domain.Choice.{Choice}
use Rattle.cb_judge.specs.declared.names.Entry.{Entry}
use Rattle.cb_judge.specs.declared.names.Meaning.{Meaning}
use Rattle.cb_judge.specs.declared.names.Meaning.TheVariants as meaning
use Rattle.cb_judge.specs.declared.names.View.{View}
use Rattle.cb_judge.specs.Meanings.{Names, known_form, is_unknown, double_fault}
use Rattle.cb_judge.specs.Choices.{maxint, typing_in, form_or_nought, choice_faults}

-- a binary term's sign, and any other term's first token
abbrev pub place_of : RawTermTree → Place
place_of (Number n p) = p
place_of (Name x) = x.place
place_of (Atom a p) = p
place_of (Binary o p a b) = p
place_of (Minus p a) = p
place_of (Card p a) = p
place_of (TruthOf p f) = p
place_of (Listed p ts) = p

-- the number that a term is, if it is a literal without a minus
abbrev pub literal_of : RawTermTree → Option ℤ
literal_of (Number n p) = Some n
literal_of (Atom atom.MaxInt p) = Some maxint
literal_of t = None

abbrev pub atom_form : RawAtom → Form
atom_form atom.True = form.Truth
atom_form atom.False = form.Truth
atom_form atom.MaxInt = form.Number maxint maxint
atom_form atom.MinInt = form.Number (neg_ℤ maxint) (neg_ℤ maxint)
atom_form atom.Nat = form.Numbers (pos 0) maxint
atom_form atom.Nat1 = form.Numbers (pos 1) maxint
atom_form atom.Int = form.Numbers (neg_ℤ maxint) maxint
atom_form atom.Truths = form.TruthSet

abbrev pub is_up_to : RawOperator → Bool
is_up_to UpTo = true
is_up_to o = false

-- a range directly to the right of these may be of any size
abbrev pub is_membership : RawRelation → Bool
is_membership relation.Member = true
is_membership relation.NotMember = true
is_membership relation.Subset = true
is_membership r = false

abbrev pub size_unless : Bool → Option Form → Place → Faults
size_unless is_free a p = if is_free then Nowhere else size_fault a p

abbrev pub entry : Meaning → Place → Entry
entry m p = record { meaning = m; place = p }

-- the names under a quantifier, whose variable is told by the number of names around it
abbrev pub under : RawName → Option Choice → Names → Names
under x c names = beside x.text (entry (meaning.Bound (length names) (form_or_nought c)) x.place) names

-- a name that is declared with what its formula says of it
abbrev pub chosen_fault : Names → RawName → Option Choice → Faults
chosen_fault names x c = Both (double_fault names x) (choice_faults c x.place)

-- `v` is what is known at the place
module _ (v : View) where
  abbrev mutual
    pub form_in : Names → RawTermTree → Option Form
    form_in names (Number n p) = Some (form.Number n n)
    form_in names (Name x) = known_form v (found x.text names)
    form_in names (Atom a p) = Some (atom_form a)
    form_in names (Binary o p a b) = binary_form o (literal_of b) (form_in names a) (form_in names b)
    form_in names (Minus p a) = Some (number (negated (span_of (form_in names a))))
    form_in names (Card p a) = Some (form.Number (pos 0) (pos 256))
    form_in names (TruthOf p f) = Some form.Truth
    form_in names (Listed p ts) = Some (listed_from names form.Empty ts)

    -- a set of this form that goes on with these terms
    pub listed_from : Names → Form → RawTerms → Form
    listed_from names done End = done
    listed_from names done (More t ts) = listed_from names (with_item done (form_in names t)) ts

  abbrev mutual
    -- the term stands directly to the right of `:`, `/:` or `<:`, or it does not
    pub fault_in : Names → (on_right : Bool) → RawTermTree → Faults
    fault_in names on_right (Number n p) = size_fault (form_in names (Number n p)) p
    fault_in names on_right (Name x) = Both (fault_if (is_unknown v (found x.text names)) 2 x.place) (size_fault (form_in names (Name x)) x.place)
    fault_in names on_right (Atom a p) = size_unless on_right (form_in names (Atom a p)) p
    fault_in names on_right (Binary o p a b) =
        Both (Both (fault_in names false a) (fault_in names false b))
        (Both (Both (operand_fault o (form_in names a) (place_of a) (form_in names b) (place_of b)) (divisor_fault o (form_in names a) (literal_of b) p))
        (size_unless (on_right && is_up_to o) (form_in names (Binary o p a b)) p))
    fault_in names on_right (Minus p a) =
        Both (fault_in names false a) (Both (wrong is_number (form_in names a) (place_of a)) (size_fault (form_in names (Minus p a)) p))
    fault_in names on_right (Card p a) = Both (fault_in names false a) (wrong is_set (form_in names a) (place_of a))
    fault_in names on_right (TruthOf p f) = fault_of names f
    fault_in names on_right (Listed p ts) = Both (fault_from names form.Empty ts) (size_fault (form_in names (Listed p ts)) p)

    -- the terms that follow in a set of this form
    pub fault_from : Names → Form → RawTerms → Faults
    fault_from names done End = Nowhere
    fault_from names done (More t ts) =
        Both (Both (fault_in names false t) (fault_if (not (suits done (form_in names t))) 5 (place_of t)))
        (fault_from names (with_item done (form_in names t)) ts)

    pub fault_of : Names → RawFormulaTree → Faults
    fault_of names True = Nowhere
    fault_of names False = Nowhere
    fault_of names (Not f) = fault_of names f
    fault_of names (And f g) = Both (fault_of names f) (fault_of names g)
    fault_of names (Or f g) = Both (fault_of names f) (fault_of names g)
    fault_of names (Implies f g) = Both (fault_of names f) (fault_of names g)
    fault_of names (Equivalent f g) = Both (fault_of names f) (fault_of names g)
    fault_of names (Relation r p a b) =
        Both (Both (fault_in names false a) (fault_in names (is_membership r) b)) (side_fault r (form_in names a) (place_of a) (form_in names b) (place_of b))
    fault_of names (Every x d f) =
        Both (chosen_fault names x (typing_in v names x.text d))
        (Both (fault_of (under x (typing_in v names x.text d) names) d) (fault_of (under x (typing_in v names x.text d) names) f))
    fault_of names (Exists x f) =
        Both (chosen_fault names x (typing_in v names x.text f)) (fault_of (under x (typing_in v names x.text f) names) f)
