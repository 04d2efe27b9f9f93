-- What names of a process stand for, and their faults, each said of no more than what it is judged by.
use Rattle.std.specs.Prelude.{ℕ, ◌==◌, nat_lt, Bool, not, ◌&&◌, ◌||◌, List, [], length, Option, Some, None, is_none}
use Rattle.cb_lex.specs.declared.raw.name.RawName.{RawName}
use Rattle.cb_lex.specs.declared.raw.text.RawChannel.{RawChannel}
use Rattle.cb_forms.specs.declared.form.Form.{Form as Known}
use Rattle.cb_forms.specs.Faults.{Faults, Nowhere, At, Both, fault_if}
use Rattle.cb_forms.specs.Find.{is_in}
use Rattle.cb_judge.specs.declared.names.Meaning.{Meaning}
use Rattle.cb_judge.specs.declared.names.Meaning.TheVariants as meaning
use Rattle.cb_judge.specs.declared.names.View.{View}
use Rattle.cb_judge.specs.Meanings.{Names}
use Rattle.cb_text_laws.specs.ProcessFaults.{count_fault}
use Rattle.cb_text_laws.specs.Signatures.{inside_channel, Callee}
use Rattle.cb_text_laws.specs.TextNames.{numbered}

-- ---- names that events bind

abbrev pub meaning_at : Option Known → Meaning
meaning_at None = meaning.Unformed
meaning_at (Some f) = meaning.Local f

-- ---- channels

abbrev pub or_nothing : Option (List Known) → List Known
or_nothing None = []
or_nothing (Some fs) = fs

-- nothing where no channel has the number
abbrev pub forms_among : List (List Known) → Option ℕ → List Known
forms_among fss k = or_nothing (numbered fss k)

abbrev pub channel_fault : RawName → ℕ → Option RawChannel → Faults
channel_fault x given None = At 2 x.place
channel_fault x given (Some c) = count_fault given (length c.values) x.place

abbrev pub noted : View → Names → Option RawChannel → Names
noted v globals None = globals
noted v globals (Some c) = inside_channel v globals c

-- ---- operations

abbrev pub unknown_operation : List ℕ → Option ℕ → Option Callee → RawName → RawName → Faults
unknown_operation own None o x y = At 2 x.place
unknown_operation own (Some k) o x y = fault_if (not (is_in k own) || is_none o) 2 y.place

abbrev pub parameters_at : Option Callee → List Known
parameters_at None = []
parameters_at (Some o) = o.parameters

abbrev pub results_at : Option Callee → List Known
results_at None = []
results_at (Some o) = o.results

abbrev pub callee_count_fault : ℕ → ℕ → RawName → Option Callee → Faults
callee_count_fault ts xs y None = Nowhere
callee_count_fault ts xs y (Some o) = fault_if (not (ts == length o.parameters) || not (xs == length o.results)) 22 y.place

-- ---- definitions

-- the number of the definition that the call names, and the forms of its parameters
abbrev pub call_fault : ℕ → (guarded : Bool) → RawName → ℕ → Option ℕ → List Known → Faults
call_fault j guarded x given None fs = At 2 x.place
call_fault j guarded x given (Some k) fs = Both (fault_if (not guarded && not (nat_lt j k)) 13 x.place) (count_fault given (length fs) x.place)
