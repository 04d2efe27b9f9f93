-- What names stand for, and which of them are known at a place.
use Rattle.std.specs.Prelude.{ℕ, ℤ, Bool, true, false, not, ◌&&◌, List, Option, Some, None, is_none, if◌then◌else◌}
use Rattle.cb_lex.specs.declared.token.Place.{Place}
use Rattle.cb_lex.specs.declared.raw.name.RawName.{RawName}
use Rattle.cb_spec.specs.Forms.{Form, Number, Element, Elements}
use Rattle.cb_forms.specs.declared.form.Form.{Form as Known}
use Rattle.cb_forms.specs.Faults.{Faults, Nowhere, At, Both, later_of}
use Rattle.cb_forms.specs.Find.{found, spelled_again, is_in}
use Rattle.cb_forms.specs.Kinds.{form_of}
use Rattle.cb_judge.specs.declared.names.Entry.{Entry}
use Rattle.cb_judge.specs.declared.names.Meaning.{Meaning}
use Rattle.cb_judge.specs.declared.names.Meaning.TheVariants as meaning
use Rattle.cb_judge.specs.declared.names.View.{View}

-- the names of a text, each with what it stands for
abbrev pub Names : Type 0
Names = List (List ℕ × Entry)

-- the form of a term that is a name with this meaning, where the name is known and may be read
abbrev pub form_of_meaning : View → Meaning → Option Form
form_of_meaning v (meaning.Set owner set size) = if is_in owner v.sees then Some (Elements set) else None
form_of_meaning v (meaning.Element owner set index) = if is_in owner v.sees then Some (Element set) else None
form_of_meaning v (meaning.Constant owner n) = if is_in owner v.sees then Some (Number n n) else None
form_of_meaning v (meaning.Variable owner form) = if is_in owner v.reads then Some (form_of form) else None
form_of_meaning v (meaning.Local form) = Some (form_of form)
form_of_meaning v (meaning.Bound level form) = Some (form_of form)
form_of_meaning v m = None

abbrev pub known_form : View → Option Entry → Option Form
known_form v None = None
known_form v (Some e) = form_of_meaning v e.meaning

-- a name that is bound to nothing that is declared: its form is not known
abbrev pub is_unformed : Meaning → Bool
is_unformed meaning.Unformed = true
is_unformed m = false

abbrev pub is_unknown : View → Option Entry → Bool
is_unknown v None = true
is_unknown v (Some e) = is_none (form_of_meaning v e.meaning) && not (is_unformed e.meaning)

abbrev pub number_of_meaning : View → Meaning → Option ℤ
number_of_meaning v (meaning.Constant owner n) = if is_in owner v.sees then Some n else None
number_of_meaning v m = None

-- the number of a constant that is known
abbrev pub known_number : View → Option Entry → Option ℤ
known_number v None = None
known_number v (Some e) = number_of_meaning v e.meaning

abbrev pub set_of_meaning : View → Meaning → Option (ℕ × ℕ)
set_of_meaning v (meaning.Set owner set size) = if is_in owner v.sees then Some (set, size) else None
set_of_meaning v m = None

-- the number of an enumerated set that is known, and the number of its elements
abbrev pub known_set : View → Option Entry → Option (ℕ × ℕ)
known_set v None = None
known_set v (Some e) = set_of_meaning v e.meaning

-- two declarations of one name, at the later
abbrev pub double_at : Place → Option Entry → Faults
double_at p None = Nowhere
double_at p (Some e) = At 1 (later_of p e.place)

-- two declarations of one name, and where a local stands beside the other, of it too
abbrev pub double_with : Names → RawName → Option Entry → Faults
double_with names x None = Nowhere
double_with names x (Some e) = Both (At 1 (later_of x.place e.place)) (double_at x.place (found (spelled_again x.text) names))

abbrev pub double_fault : Names → RawName → Faults
double_fault names x = double_with names x (found x.text names)
