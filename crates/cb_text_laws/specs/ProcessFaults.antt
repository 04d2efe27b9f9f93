-- Faults of processes.
use Rattle.std.specs.Prelude.{ℕ, ◌==◌, nat_lt, Bool, true, false, not, ◌&&◌, ◌||◌, List, [], ◌∷◌, length, Option, Some, None, is_none}
use Rattle.cb_lex.specs.declared.token.Place.{Place}
use Rattle.cb_lex.specs.declared.raw.event.RawEvent.{RawEvent}
use Rattle.cb_lex.specs.declared.raw.event.RawEvent.TheVariants as event
use Rattle.cb_lex.specs.declared.raw.name.RawName.{RawName}
use Rattle.cb_lex.specs.declared.raw.text.RawChannel.{RawChannel}
use Rattle.cb_lex.specs.declared.raw.text.RawMachine.{RawMachine}
use Rattle.cb_lex.specs.RawProcessTree.{RawProcessTree, Stop, Skip, Call, If, Prefix, External, Internal, RawProcesses, NoOperand, Operand}
use Rattle.cb_lex.specs.RawTermTree.{RawTermTree, RawFormulaTree}
use Rattle.cb_forms.specs.declared.form.Form.{Form as Known}
use Rattle.cb_forms.specs.Faults.{Faults, Nowhere, At, Both, fault_if}
use Rattle.cb_forms.specs.Find.{found, beside, is_in}
use Rattle.cb_forms.specs.Kinds.{form_of, may_meet}
use Rattle.cb_judge.specs.declared.names.Meaning.{Meaning}
use Rattle.cb_judge.specs.declared.names.Meaning.TheVariants as meaning
use Rattle.cb_judge.specs.declared.names.View.{View}
use Rattle.cb_judge.specs.Meanings.{Names, double_fault}
use Rattle.cb_judge.specs.Judged.{place_of, entry, form_in, fault_in, fault_of}
use Rattle.cb_judge.specs.Sure.{nowhere}
use Rattle.cb_types.specs.Declares.{machine_number}
use Rattle.cb_types.specs.MachineFaults.{maybe_fault}
use Rattle.cb_text_laws.specs.Signatures.{value_forms, inside_channel, channel_of, Definitions, parameters_of, Callee, callee}

-- ---- arguments

-- a term that is not of the kind of what it is given to
abbrev pub argument_fault : View → Names → Known → RawTermTree → Faults
argument_fault v names f t = Both (fault_in v names false t) (fault_if (not (may_meet (Some (form_of f)) (form_in v names t))) 5 (place_of t))

-- the terms are given to what has these forms; how many there are is a fault of another code
abbrev pub arguments_fault : View → Names → List Known → List RawTermTree → Faults
arguments_fault v names fs [] = Nowhere
arguments_fault v names [] (t ∷ ts) = Both (fault_in v names false t) (arguments_fault v names [] ts)
arguments_fault v names (f ∷ fs) (t ∷ ts) = Both (argument_fault v names f t) (arguments_fault v names fs ts)

-- another number than the declaration has
abbrev pub count_fault : ℕ → ℕ → Place → Faults
count_fault given wanted p = fault_if (not (given == wanted)) 22 p

-- ---- names that events bind

-- where more names are bound than values are declared, the kind of the rest is not known
abbrev pub first_meaning : List Known → Meaning
first_meaning [] = meaning.Unformed
first_meaning (f ∷ fs) = meaning.Local f

abbrev pub other_forms : List Known → List Known
other_forms [] = []
other_forms (f ∷ fs) = fs

abbrev pub with_local : RawName → Meaning → Names → Names
with_local x m names = beside x.text (entry m x.place) names

-- the names with those that are bound to values of these forms
abbrev pub with_locals : Names → List RawName → List Known → Names
with_locals names [] fs = names
with_locals names (x ∷ xs) fs = with_locals (with_local x (first_meaning fs) names) xs (other_forms fs)

abbrev pub bound_fault : Names → List RawName → List Known → Faults
bound_fault names [] fs = Nowhere
bound_fault names (x ∷ xs) fs = Both (double_fault names x) (bound_fault (with_local x (first_meaning fs) names) xs (other_forms fs))

-- ---- places

abbrev pub event_place : RawEvent → Place
event_place (event.Output x ts said) = x.place
event_place (event.Input x xs said) = x.place
event_place (event.Operation m o ts xs) = m.place

-- the first token of a process; a parenthesis is none
abbrev mutual
  pub first_place : RawProcessTree → Place
  first_place (Stop p) = p
  first_place (Skip p) = p
  first_place (Call c) = c.name.place
  first_place (If p f a b) = p
  first_place (Prefix e a) = event_place e
  first_place (External ps) = place_of_first ps
  first_place (Internal ps) = place_of_first ps

  pub place_of_first : RawProcesses → Place
  place_of_first NoOperand = nowhere
  place_of_first (Operand p ps) = first_place p

-- ---- operands of `[]`

abbrev mutual
  -- a prefix, STOP, an IF of such operands, or `[]` of them
  pub is_operand : RawProcessTree → Bool
  is_operand (Stop p) = true
  is_operand (Skip p) = false
  is_operand (Call c) = false
  is_operand (If p f a b) = is_operand a && is_operand b
  is_operand (Prefix e a) = true
  is_operand (External ps) = are_operands ps
  is_operand (Internal ps) = false

  pub are_operands : RawProcesses → Bool
  are_operands NoOperand = true
  are_operands (Operand p ps) = is_operand p && are_operands ps

-- each operand that is none
abbrev pub operands_fault : RawProcesses → Faults
operands_fault NoOperand = Nowhere
operands_fault (Operand p ps) = Both (fault_if (not (is_operand p)) 14 (first_place p)) (operands_fault ps)

-- ---- processes

-- What is known in a controller: `before` are the names that stand before variables are known, `globals` those of the whole text,
-- `v` what is known outside of machines, `own` the machines that the controller calls, `ds` its definitions
module _ (before globals : Names) (ms : List RawMachine) (channels : List RawChannel) (v : View) (own : List ℕ) (ds : Definitions) where
  -- what the values of the channel are
  abbrev pub forms_at : Option RawChannel → List Known
  forms_at None = []
  forms_at (Some c) = value_forms v globals c

  -- a channel that is none, or another number of values than it has
  abbrev pub channel_fault : RawName → ℕ → Option RawChannel → Faults
  channel_fault x given None = At 2 x.place
  channel_fault x given (Some c) = count_fault given (length c.values) x.place

  -- the names that an output's annotation knows: of the channel's values, and no local ones
  abbrev pub noted : Option RawChannel → Names
  noted None = globals
  noted (Some c) = inside_channel v globals c

  abbrev pub output_fault : Names → RawName → List RawTermTree → Option RawFormulaTree → Option RawChannel → Faults
  output_fault names x ts said c =
      Both (channel_fault x (length ts) c) (Both (arguments_fault v names (forms_at c) ts) (maybe_fault v (noted c) said))

  -- an input's annotation knows its own names, and no other local ones
  abbrev pub input_fault : Names → RawName → List RawName → Option RawFormulaTree → Option RawChannel → Faults
  input_fault names x xs said c =
      Both (channel_fault x (length xs) c) (Both (bound_fault names xs (forms_at c)) (maybe_fault v (with_locals globals xs (forms_at c)) said))

  -- a machine that is none, or an operation that the machine does not have or the controller does not call
  abbrev pub unknown_operation : Option ℕ → Option Callee → RawName → RawName → Faults
  unknown_operation None o x y = At 2 x.place
  unknown_operation (Some k) o x y = fault_if (not (is_in k own) || is_none o) 2 y.place

  abbrev pub parameters_at : Option Callee → List Known
  parameters_at None = []
  parameters_at (Some o) = o.parameters

  abbrev pub results_at : Option Callee → List Known
  results_at None = []
  results_at (Some o) = o.results

  -- another number of arguments or of results
  abbrev pub callee_count_fault : ℕ → ℕ → RawName → Option Callee → Faults
  callee_count_fault ts xs y None = Nowhere
  callee_count_fault ts xs y (Some o) = fault_if (not (ts == length o.parameters) || not (xs == length o.results)) 22 y.place

  abbrev pub operation_call_fault : Names → RawName → RawName → List RawTermTree → List RawName → Option Callee → Faults
  operation_call_fault names x y ts xs o =
      Both (Both (unknown_operation (machine_number (found x.text names)) o x y) (callee_count_fault (length ts) (length xs) y o))
      (Both (arguments_fault v names (parameters_at o) ts) (bound_fault names xs (results_at o)))

  abbrev pub event_fault : Names → RawEvent → Faults
  event_fault names (event.Output x ts said) = output_fault names x ts said (channel_of channels names x)
  event_fault names (event.Input x xs said) = input_fault names x xs said (channel_of channels names x)
  event_fault names (event.Operation x y ts xs) = operation_call_fault names x y ts xs (callee before globals ms names x y)

  -- the names after the event
  abbrev pub after_event : Names → RawEvent → Names
  after_event names (event.Output x ts said) = names
  after_event names (event.Input x xs said) = with_locals names xs (forms_at (channel_of channels names x))
  after_event names (event.Operation x y ts xs) = with_locals names xs (results_at (callee before globals ms names x y))

  -- a definition that is none; one that is not after the definition with the number j, where no event stands before the call;
  -- another number of arguments
  abbrev pub call_fault : ℕ → (guarded : Bool) → RawName → ℕ → Option (ℕ × List Known) → Faults
  call_fault j guarded x given None = At 2 x.place
  call_fault j guarded x given (Some d) = Both (fault_if (not guarded && not (nat_lt j d.0)) 13 x.place) (count_fault given (length d.1) x.place)

  -- the process stands in the definition with the number j. An event stands before it there, or none does
  abbrev mutual
    pub process_fault : ℕ → Names → (guarded : Bool) → RawProcessTree → Faults
    process_fault j names guarded (Stop p) = Nowhere
    process_fault j names guarded (Skip p) = Nowhere
    process_fault j names guarded (Call c) =
        Both (call_fault j guarded c.name (length c.arguments) (found c.name.text ds)) (arguments_fault v names (parameters_of (found c.name.text ds)) c.arguments)
    process_fault j names guarded (If p f a b) = Both (fault_of v names f) (Both (process_fault j names guarded a) (process_fault j names guarded b))
    process_fault j names guarded (Prefix e a) = Both (event_fault names e) (process_fault j (after_event names e) true a)
    process_fault j names guarded (External ps) = Both (operands_fault ps) (processes_fault j names guarded ps)
    process_fault j names guarded (Internal ps) = processes_fault j names guarded ps

    pub processes_fault : ℕ → Names → (guarded : Bool) → RawProcesses → Faults
    processes_fault j names guarded NoOperand = Nowhere
    processes_fault j names guarded (Operand p ps) = Both (process_fault j names guarded p) (processes_fault j names guarded ps)
