-- The list of what a machine owes.
use Rattle.std.specs.Prelude.{ℕ, ◌+◌, List, [], ◌∷◌, ◌++◌, map, flat_map, Option, Some, None, ⊤}
use Rattle.cb_term.specs.declared.name.Name.{Name}
use Rattle.cb_term.specs.declared.kind.Kind.{Kind}
use Rattle.cb_term.specs.Tree.{FormulaTree, Implies, Every}
use Rattle.cb_seq.specs.declared.sequent.Group.{Group}
use Rattle.cb_seq.specs.declared.sequent.Group.TheVariants as group
use Rattle.cb_seq.specs.declared.sequent.ObName.{ObName}
use Rattle.cb_seq.specs.declared.sequent.Obligation.{Obligation}
use Rattle.cb_seq.specs.Validity.{Claim, claim_of, Valid}
use Rattle.cb_spec.specs.declared.system.Declared.{Declared}
use Rattle.cb_spec.specs.declared.system.Machine.{Machine}
use Rattle.cb_spec.specs.declared.system.Operation.{Operation}
use Rattle.cb_spec.specs.Domains.{kind_of_domain}
use Rattle.cb_obligations.specs.Transform.{closed_over, transformed, live}
use Rattle.cb_obligations.specs.Pieces.{pieces}

-- a named claim
pub record Owed : Type 0 where
  pub name : ObName
  pub claim : Claim

abbrev pub owed_of : Obligation → Owed
owed_of o = record { name = o.name; claim = claim_of o.sequent }

-- the claims of one group, numbered from i
abbrev pub named : Group → Name → Option Name → ℕ → List Claim → List Owed
named g owner part i [] = []
named g owner part i (q ∷ qs) =
    record { name = record { group = g; owner = owner; part = part; number = i }; claim = q } ∷ named g owner part (i + 1) qs

abbrev pub with_kinds : List Declared → List (Name × Kind)
with_kinds ds = map (λ (d : Declared). (d.name, kind_of_domain d.domain)) ds

-- for all values of the declared names. `xs` are those bound around it, the innermost first
abbrev pub for_all : List Name → List Declared → FormulaTree → FormulaTree
for_all xs [] f = closed_over xs f
for_all xs (d ∷ ds) f = Every d.name (kind_of_domain d.domain) (for_all (d.name ∷ xs) ds f)

-- under the invariant, for all parameters: where the precondition holds, the formula does
abbrev pub of_operation : FormulaTree → Operation → FormulaTree → FormulaTree
of_operation inv o f = Implies inv (for_all [] o.params (Implies o.pre f))

abbrev pub pieces_of : Machine → FormulaTree → List Claim
pieces_of m f = pieces (with_kinds m.variables) [] 0 f

-- for `LIVE` no part is the initialisation
abbrev pub init_owes : Machine → List Owed
init_owes m =
    named group.Init m.name None 1 (pieces_of m (transformed m.init m.invariant))
    ++ named group.Live m.name None 1 (pieces_of m (live m.init))

abbrev pub operation_owes : Machine → Operation → List Owed
operation_owes m o =
    named group.Op m.name (Some o.name) 1 (pieces_of m (of_operation m.invariant o (transformed o.body m.invariant)))
    ++ named group.Live m.name (Some o.name) 1 (pieces_of m (of_operation m.invariant o (live o.body)))

-- its initialisation, and then its operations in order
abbrev pub machine_owes : Machine → List Owed
machine_owes m = init_owes m ++ flat_map (λ (o : Operation). operation_owes m o) m.operations

abbrev pub AllOwedValid : List ℕ → List Owed → Type 0
AllOwedValid sizes [] = ⊤
AllOwedValid sizes (o ∷ os) = Valid sizes o.claim × AllOwedValid sizes os
