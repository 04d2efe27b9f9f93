-- The printed trace of a run. Every line ends with a line feed.
use Rattle.std.specs.Prelude.{ℕ, ℤ, pos, negsuc, ◌==◌, Bool, true, false, not, if◌then◌else◌, List, [], ◌∷◌, ◌++◌, map, Option, Some, None, slice_get, codes}
use Rattle.std.specs.Fmt.{signed_decimal}
use Rattle.cb_term.specs.declared.kind.Base.{Base}
use Rattle.cb_term.specs.declared.kind.Base.TheVariants as base
use Rattle.cb_term.specs.declared.kind.Kind.{Kind}
use Rattle.cb_term.specs.declared.kind.Kind.TheVariants as kind
use Rattle.cb_term.specs.declared.name.Name.{Name}
use Rattle.cb_term.specs.declared.table.SetNames.{SetNames}
use Rattle.cb_term.specs.declared.value.Value.{Value}
use Rattle.cb_term.specs.declared.value.Value.TheVariants as value
use Rattle.cb_term.specs.Text.{name_text, element_text, only_if}
use Rattle.cb_spec.specs.declared.state.End.{End}
use Rattle.cb_spec.specs.declared.state.End.TheVariants as end
use Rattle.cb_spec.specs.declared.state.Entry.{Entry}
use Rattle.cb_spec.specs.declared.state.Entry.TheVariants as entry
use Rattle.cb_spec.specs.declared.system.Channel.{Channel}
use Rattle.cb_spec.specs.declared.system.Declared.{Declared}
use Rattle.cb_spec.specs.declared.system.Machine.{Machine}
use Rattle.cb_spec.specs.declared.system.Operation.{Operation}
use Rattle.cb_spec.specs.declared.system.System.{System}
use Rattle.cb_spec.specs.Domains.{kind_of_domain}
use Rattle.cb_spec.specs.Stores.{Writes, look_of}

-- ---- values, printed by their kinds

abbrev pub truth_text : Bool → List ℕ
truth_text b = if b then codes "TRUE" else codes "FALSE"

abbrev pub is_one : ℤ → Bool
is_one (pos n) = n == 1
is_one (negsuc n) = false

-- the place of an element; a number below 0 counts as 0
abbrev pub place_of : ℤ → ℕ
place_of (pos n) = n
place_of (negsuc n) = 0

-- an item of a set
abbrev pub item_text : List SetNames → Base → ℤ → List ℕ
item_text sets base.Integer n = signed_decimal n
item_text sets base.Truth n = truth_text (is_one n)
item_text sets (base.Elem s) n = element_text (slice_get sets s) (place_of n)

-- with a comma before each but the first
abbrev pub items_text : List SetNames → Base → Bool → List ℤ → List ℕ
items_text sets b first [] = []
items_text sets b first (n ∷ ns) = only_if (not first) (codes ", ") ++ item_text sets b n ++ items_text sets b false ns

-- what the items of a set of such a kind are
abbrev pub base_of : Kind → Base
base_of (kind.SetOf b) = b
base_of k = base.Integer

abbrev pub value_text : List SetNames → Kind → Value → List ℕ
value_text sets k (value.Int n) = signed_decimal n
value_text sets k (value.Truth b) = truth_text b
value_text sets (kind.Elem s) (value.Elem n) = element_text (slice_get sets s) n
value_text sets k (value.Elem n) = []
value_text sets k (value.Set ns) = codes "{" ++ items_text sets (base_of k) true ns ++ codes "}"

abbrev pub values_text : List SetNames → Bool → List Kind → List Value → List ℕ
values_text sets first [] vs = []
values_text sets first (k ∷ ks) [] = []
values_text sets first (k ∷ ks) (v ∷ vs) = only_if (not first) (codes ", ") ++ value_text sets k v ++ values_text sets false ks vs

-- ---- lines

abbrev pub kinds_of : List Declared → List Kind
kinds_of ds = map (λ (d : Declared). kind_of_domain d.domain) ds

-- `(3, 4)`, or nothing where there are no values
abbrev pub args_text : List SetNames → List Declared → List Value → List ℕ
args_text sets [] vs = []
args_text sets (d ∷ ds) vs = codes "(" ++ values_text sets true (kinds_of (d ∷ ds)) vs ++ codes ")"

-- ` -> 9, 10`, or nothing where there are no results
abbrev pub results_text : List SetNames → List (Name × Kind) → List Value → List ℕ
results_text sets [] vs = []
results_text sets (r ∷ rs) vs = codes " -> " ++ values_text sets true (map (λ (q : Name × Kind). q.1) (r ∷ rs)) vs

-- `M.x = value`
abbrev pub variable_text : List SetNames → Machine → Writes → Declared → List ℕ
variable_text sets m s0 d =
    codes "init " ++ name_text m.name ++ codes "." ++ name_text d.name ++ codes " = " ++ value_text sets (kind_of_domain d.domain) (look_of s0 d.name) ++ codes "\n"

abbrev pub variables_text : List SetNames → Machine → Writes → List Declared → List ℕ
variables_text sets m s0 [] = []
variables_text sets m s0 (d ∷ ds) = variable_text sets m s0 d ++ variables_text sets m s0 ds

-- a line for each variable at the beginning, in text order
abbrev pub inits_text : List SetNames → Writes → List Machine → List ℕ
inits_text sets s0 [] = []
inits_text sets s0 (m ∷ ms) = variables_text sets m s0 m.variables ++ inits_text sets s0 ms

-- `M.op(3) -> 9`
abbrev pub call_text : List SetNames → Machine → Option Operation → List Value → List Value → List ℕ
call_text sets m None args results = []
call_text sets m (Some o) args results =
    name_text m.name ++ codes "." ++ name_text o.name ++ args_text sets o.params args ++ results_text sets o.results results ++ codes "\n"

abbrev pub op_text : List SetNames → Option Machine → (operation : ℕ) → List Value → List Value → List ℕ
op_text sets None j args results = []
op_text sets (Some m) j args results = call_text sets m (slice_get m.operations j) args results

-- `c(3, 4)`
abbrev pub pass_text : List SetNames → Option Channel → List Value → List ℕ
pass_text sets None vs = []
pass_text sets (Some ch) vs = name_text ch.name ++ args_text sets ch.values vs ++ codes "\n"

abbrev pub end_word : End → List ℕ
end_word end.Ended = codes "end ended\n"
end_word end.Limit = codes "end limit\n"
end_word end.Quiet = codes "end quiet\n"
end_word end.Memory = codes "end memory\n"

-- the line of an entry; what a process is resolved to is not told
abbrev pub entry_text : System → Entry → List ℕ
entry_text y (entry.Settle i bits) = []
entry_text y (entry.Op i b k j args results written) = op_text y.sets.sets.items (slice_get y.machines k) j args results
entry_text y (entry.Pass k sent got vs) = pass_text y.sets.sets.items (slice_get y.channels k) vs
entry_text y (entry.End c) = end_word c

abbrev pub entries_text : System → List Entry → List ℕ
entries_text y [] = []
entries_text y (e ∷ es) = entry_text y e ++ entries_text y es

-- the beginning, and each event in order
abbrev pub trace_text : System → Writes → List Entry → List ℕ
trace_text y s0 es = inits_text y.sets.sets.items s0 y.machines ++ entries_text y es
