-- The normal form of machines, and the system of a text.
use Rattle.std.specs.Prelude.{ℕ, ℤ, List, [], ◌∷◌, ◌++◌, map, Option, Some, None}
use Rattle.cb_lex.specs.declared.raw.name.RawName.{RawName}
use Rattle.cb_lex.specs.declared.raw.text.RawMachine.{RawMachine}
use Rattle.cb_lex.specs.declared.raw.text.RawOperation.{RawOperation}
use Rattle.cb_lex.specs.declared.raw.text.RawSet.{RawSet}
use Rattle.cb_lex.specs.declared.raw.text.RawState.{RawState}
use Rattle.cb_lex.specs.RawTermTree.{RawFormulaTree}
use Rattle.cb_term.specs.declared.kind.Base.TheVariants as base
use Rattle.cb_term.specs.declared.kind.Kind.{Kind}
use Rattle.cb_term.specs.declared.kind.Kind.TheVariants as kind
use Rattle.cb_term.specs.declared.name.Name.{Name}
use Rattle.cb_term.specs.declared.table.SetNames.{SetNames}
use Rattle.cb_term.specs.Tree.{FormulaTree, True}
use Rattle.cb_spec.specs.declared.system.Declared.{Declared}
use Rattle.cb_spec.specs.declared.system.Machine.{Machine}
use Rattle.cb_spec.specs.declared.system.Operation.{Operation}
use Rattle.cb_spec.specs.SubstTree.{SubstTree, Skip}
use Rattle.cb_forms.specs.Find.{found}
use Rattle.cb_judge.specs.declared.names.View.{View}
use Rattle.cb_judge.specs.declared.subst.Given.{Given}
use Rattle.cb_judge.specs.Meanings.{Names}
use Rattle.cb_judge.specs.Substs.{Results, results_after}
use Rattle.cb_normal.specs.Normal.{written, domain_or, formula_in}
use Rattle.cb_normal.specs.NormalSubsts.{subst_in}
use Rattle.cb_types.specs.Declares.{Domains, Numbers, domains_of, own_domains, numbers_from, or_zero, view_of, inner_view, variables_of, next, statics_of, names_of, reserved}
use Rattle.cb_types.specs.MachineFaults.{inside_operation}

abbrev pub written_name : RawName → Name
written_name x = written x.text

unfoldable pub declared_name : Domains → RawName → Declared
declared_name ds x = record { name = written_name x; domain = domain_or (found x.text ds) }

abbrev pub maybe_formula : View → Names → Option RawFormulaTree → FormulaTree
maybe_formula v names None = True
maybe_formula v names (Some f) = formula_in v names f

-- the kind of a result; where only `{}` is assigned to it, it is a set of numbers
abbrev pub kind_or_set : Kind → Kind
kind_or_set kind.EmptySet = kind.SetOf base.Integer
kind_or_set k = k

abbrev pub given_kind : Option Given → Kind
given_kind None = kind.Integer
given_kind (Some g) = kind_or_set g.kind

unfoldable pub result_name : Results → RawName → Name × Kind
result_name rs x = (written_name x, given_kind (found x.text rs))

unfoldable pub operation_with : Domains → RawOperation → List (Name × Kind) → FormulaTree → SubstTree → Operation
operation_with ds o results pre body = record {
  name = written_name o.name;
  params = map (declared_name ds) o.parameters;
  results = results;
  pre = pre;
  body = body;
}

-- the results of an operation, with the kinds of what is assigned to them
abbrev pub results_in : View → Names → RawOperation → List (Name × Kind)
results_in v names o = map (result_name (results_after v names [] o.body)) o.results

-- an operation, of which `names` are known inside
unfoldable pub operation_inside : View → Domains → Names → RawOperation → Operation
operation_inside v ds names o = operation_with ds o (results_in v names o) (maybe_formula v names o.precondition) (subst_in v names o.body)

unfoldable pub operation_in : View → Names → RawOperation → Operation
operation_in v names o = operation_inside v (domains_of v names o.precondition) (inside_operation (domains_of v names o.precondition) o names) o

abbrev pub invariant_in : View → Names → Option RawState → FormulaTree
invariant_in v names None = True
invariant_in v names (Some s) = formula_in v names s.invariant

abbrev pub start_in : View → Names → Option RawState → SubstTree
start_in v names None = Skip
start_in v names (Some s) = subst_in v names s.initialisation

unfoldable pub machine_with : List Declared → RawMachine → FormulaTree → SubstTree → List Operation → Machine
machine_with variables m invariant init operations = record {
  name = written_name m.name;
  variables = variables;
  invariant = invariant;
  init = init;
  operations = operations;
}

-- the variables of a machine, with their domains
abbrev pub variables_in : Names → ℕ → RawMachine → List Declared
variables_in known owner m = map (declared_name (own_domains known owner m)) (variables_of m.state)

unfoldable pub machine_in : Names → Names → ℕ → RawMachine → Machine
machine_in known names owner m =
    machine_with (variables_in known owner m) m (invariant_in (inner_view known owner m) names m.state) (start_in (view_of known owner m) names m.state)
    (map (operation_in (inner_view known owner m) names) m.operations)

abbrev pub machines_in : Names → Names → ℕ → List RawMachine → List Machine
machines_in known names owner [] = []
machines_in known names owner (m ∷ ms) = machine_in known names owner m ∷ machines_in known names (next owner) ms

unfoldable pub set_in : RawSet → SetNames
set_in s = record { name = written_name s.name; elements = map written_name s.elements }

unfoldable pub constant_in : Numbers → RawName → Name × ℤ
constant_in ns x = (written_name x, or_zero (found x.text ns))

-- the sets of the machines, one after another
abbrev pub sets_of : List RawMachine → List SetNames
sets_of [] = []
sets_of (m ∷ ms) = map set_in m.sets ++ sets_of ms

-- the constants of the machines, one after another
abbrev pub constants_of : List RawMachine → List (Name × ℤ)
constants_of [] = []
constants_of (m ∷ ms) = map (constant_in (numbers_from [] m.properties)) m.constants ++ constants_of ms

-- what the names of a text stand for
abbrev pub known_in : List RawMachine → Names
known_in ms = statics_of 0 0 reserved ms

abbrev pub names_in : List RawMachine → Names
names_in ms = names_of (known_in ms) 0 0 reserved ms
