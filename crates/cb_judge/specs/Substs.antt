-- Faults of substitutions as they are written, but for what they write beside each other.
use Rattle.std.specs.Prelude.{ℕ, ◌==◌, Bool, true, false, not, List, Option, Some, None, if◌then◌else◌}
use Rattle.cb_lex.specs.declared.token.Place.{Place}
use Rattle.cb_lex.specs.declared.raw.name.RawName.{RawName}
use Rattle.cb_lex.specs.RawSubstTree.{RawSubstTree, Skip, Assign, Among, If, IfElse, Choice, Any, Parallel, RawSubsts, NoSide, Side}
use Rattle.cb_term.specs.declared.kind.Kind.{Kind}
use Rattle.cb_term.specs.declared.kind.Kind.TheVariants as kind
use Rattle.cb_term.specs.declared.kind.Base.TheVariants as base
use Rattle.cb_spec.specs.Forms.{Form, Number, Truth, Element, Numbers, TruthSet, Elements, Empty, form_of_domain, is_of_kind}
use Rattle.cb_forms.specs.Faults.{Faults, Nowhere, At, Both, fault_if}
use Rattle.cb_forms.specs.Find.{found, beside, put}
use Rattle.cb_forms.specs.Kinds.{form_of, is_set, may_meet, size_fault}
use Rattle.cb_judge.specs.declared.domain.Choice.{Choice as Chosen}
use Rattle.cb_judge.specs.declared.names.Entry.{Entry}
use Rattle.cb_judge.specs.declared.names.Meaning.{Meaning}
use Rattle.cb_judge.specs.declared.names.Meaning.TheVariants as meaning
use Rattle.cb_judge.specs.declared.names.View.{View}
use Rattle.cb_judge.specs.declared.subst.Given.{Given}
use Rattle.cb_judge.specs.Meanings.{Names}
use Rattle.cb_judge.specs.Choices.{typing_in, form_or_nought, choice_faults, domain_in, unknown_in}
use Rattle.cb_judge.specs.Judged.{place_of, entry, form_in, fault_in, fault_of, chosen_fault}

abbrev pub kind_of_form : Form → Kind
kind_of_form (Number lo hi) = kind.Integer
kind_of_form Truth = kind.Truth
kind_of_form (Element set) = kind.Elem set
kind_of_form (Numbers lo hi) = kind.SetOf base.Integer
kind_of_form TruthSet = kind.SetOf base.Truth
kind_of_form (Elements set) = kind.SetOf (base.Elem set)
kind_of_form Empty = kind.EmptySet

abbrev pub is_empty_set : Kind → Bool
is_empty_set kind.EmptySet = true
is_empty_set k = false

-- the results that are assigned to so far: the kind of the first term that is not `{}`, and the place of the first term
abbrev pub Results : Type 0
Results = List (List ℕ × Given)

-- the next term that is assigned is of another kind; where only `{}` was assigned before, that is what has the wrong kind
abbrev pub kind_fault : Given → Form → Place → Faults
kind_fault g f q = if is_empty_set g.kind then fault_if (not (is_set f)) 5 g.place else fault_if (not (is_of_kind f g.kind)) 5 q

abbrev pub given_fault : Option Given → Option Form → Place → Faults
given_fault None f q = Nowhere
given_fault (Some g) None q = Nowhere
given_fault (Some g) (Some f) q = kind_fault g f q

abbrev pub next_given : Given → Form → Given
next_given g f = if is_empty_set g.kind then record { kind = kind_of_form f; place = g.place } else g

abbrev pub given_next : List ℕ → Results → Option Given → Option Form → Place → Results
given_next x results g None q = results
given_next x results None (Some f) q = put x (record { kind = kind_of_form f; place = q }) results
given_next x results (Some g) (Some f) q = put x (next_given g f) results

-- a target that is no variable of the machine and no result, or a term of the wrong kind
abbrev pub meaning_fault : View → Meaning → Results → RawName → Option Form → Place → Faults
meaning_fault v (meaning.Variable owner form) results x f q =
    if owner == v.machine then fault_if (not (may_meet (Some (form_of form)) f)) 5 q else At 2 x.place
meaning_fault v meaning.Result results x f q = given_fault (found x.text results) f q
meaning_fault v m results x f q = At 2 x.place

abbrev pub target_fault : View → Option Entry → Results → RawName → Option Form → Place → Faults
target_fault v None results x f q = At 2 x.place
target_fault v (Some e) results x f q = meaning_fault v e.meaning results x f q

abbrev pub is_result_meaning : Meaning → Bool
is_result_meaning meaning.Result = true
is_result_meaning m = false

abbrev pub is_result : Option Entry → Bool
is_result None = false
is_result (Some e) = is_result_meaning e.meaning

abbrev pub target_next : Option Entry → Results → RawName → Option Form → Place → Results
target_next e results x f q = if is_result e then given_next x.text results (found x.text results) f q else results

abbrev pub chosen_form : Option Chosen → Option Form
chosen_form None = None
chosen_form (Some c) = Some (form_of_domain c.domain)

-- the names in an ANY
abbrev pub within : RawName → Option Chosen → Names → Names
within x c names = beside x.text (entry (meaning.Local (form_or_nought c)) x.place) names

module _ (v : View) where
  abbrev mutual
    pub results_after : Names → Results → RawSubstTree → Results
    results_after names results Skip = results
    results_after names results (Assign x t) = target_next (found x.text names) results x (form_in v names t) (place_of t)
    results_after names results (Among x d) = target_next (found x.text names) results x (chosen_form (domain_in v names d)) x.place
    results_after names results (If f s) = results_after names results s
    results_after names results (IfElse f s t) = results_after names (results_after names results s) t
    results_after names results (Choice ss) = results_after_sides names results ss
    results_after names results (Any x f s) = results_after (within x (typing_in v names x.text f) names) results s
    results_after names results (Parallel s t) = results_after names (results_after names results s) t

    pub results_after_sides : Names → Results → RawSubsts → Results
    results_after_sides names results NoSide = results
    results_after_sides names results (Side s ss) = results_after_sides names (results_after names results s) ss

  abbrev mutual
    pub subst_fault : Names → Results → RawSubstTree → Faults
    subst_fault names results Skip = Nowhere
    subst_fault names results (Assign x t) =
        Both (fault_in v names false t) (target_fault v (found x.text names) results x (form_in v names t) (place_of t))
    subst_fault names results (Among x d) =
        Both (Both (unknown_in v names d) (choice_faults (domain_in v names d) x.place))
        (Both (target_fault v (found x.text names) results x (chosen_form (domain_in v names d)) x.place) (size_fault (chosen_form (domain_in v names d)) x.place))
    subst_fault names results (If f s) = Both (fault_of v names f) (subst_fault names results s)
    subst_fault names results (IfElse f s t) =
        Both (fault_of v names f) (Both (subst_fault names results s) (subst_fault names (results_after names results s) t))
    subst_fault names results (Choice ss) = sides_fault names results ss
    subst_fault names results (Any x f s) =
        Both (chosen_fault names x (typing_in v names x.text f))
        (Both (fault_of v (within x (typing_in v names x.text f) names) f) (subst_fault (within x (typing_in v names x.text f) names) results s))
    subst_fault names results (Parallel s t) = Both (subst_fault names results s) (subst_fault names (results_after names results s) t)

    pub sides_fault : Names → Results → RawSubsts → Faults
    sides_fault names results NoSide = Nowhere
    sides_fault names results (Side s ss) = Both (subst_fault names results s) (sides_fault names (results_after names results s) ss)
