-- One walk over a process, with the terms that names stand for and what is supposed on the way.
use Rattle.std.specs.Prelude.{ℕ, ◌+◌, List, [], ◌∷◌, ◌++◌, flat_map, Option, Some, None, slice_get}
use Rattle.cb_term.specs.declared.name.Name.{Name}
use Rattle.cb_term.specs.declared.kind.Kind.{Kind}
use Rattle.cb_term.specs.Tree.{TermTree, Var, FormulaTree, False, Not}
use Rattle.cb_seq.specs.Validity.{Claim}
use Rattle.cb_spec.specs.declared.event.Event.TheVariants as event
use Rattle.cb_spec.specs.declared.system.Controller.{Controller}
use Rattle.cb_spec.specs.declared.system.Declared.{Declared}
use Rattle.cb_spec.specs.declared.system.Machine.{Machine}
use Rattle.cb_spec.specs.declared.system.Operation.{Operation}
use Rattle.cb_spec.specs.declared.system.System.{System}
use Rattle.cb_spec.specs.ProcessTree.{ProcessTree, Stop, Skip, Call, Prefix, Choice, Internal, If}
use Rattle.cb_spec.specs.Domains.{kind_of_domain}
use Rattle.cb_spec.specs.Bound.{names}
use Rattle.cb_obligations.specs.Branches.{Item, Bind, Guard, Assigned, Branch, numbered, branches}
use Rattle.cb_obligations.specs.Pieces.{conjuncts, pieces}
use Rattle.cb_conditions.specs.Reading.{Meaning, with_terms, read, read_each, after, terms_at}
use Rattle.cb_conditions.specs.Conditions.{guarantee, assumption, asked, outcome, declared_as}

-- where a walk stands: how many names are opened, the names of a sequent here, the hypotheses, and what written names stand for
pub record Way : Type 0 where
  pub number : ℕ
  pub names : List (Name × Kind)
  pub hypotheses : List FormulaTree
  pub store : Meaning

-- the sequents of a formula here
abbrev pub shown : Way → FormulaTree → List Claim
shown w f = pieces w.names w.hypotheses w.number (read w.store f)

abbrev pub standing : Way → Meaning → Way
standing w s = record { number = w.number; names = w.names; hypotheses = w.hypotheses; store = s }

-- with the terms for the names, as they are read here
abbrev pub written : Way → Assigned → Way
written w ws = standing w (after w.store ws)

-- under the formula
abbrev pub supposing : Way → FormulaTree → Way
supposing w f = record { number = w.number; names = w.names; hypotheses = w.hypotheses ++ conjuncts (read w.store f); store = w.store }

-- with an opened name for the written one
abbrev pub opening : Way → Name → Kind → Way
opening w x kind = record {
  number = w.number + 1;
  names = w.names ++ (numbered x (w.number + 1), kind) ∷ [];
  hypotheses = w.hypotheses;
  store = with_terms ((x, Var (numbered x (w.number + 1))) ∷ []) w.store;
}

abbrev pub opening_each : Way → List Declared → Way
opening_each w [] = w
opening_each w (d ∷ ds) = opening_each (opening w d.name (kind_of_domain d.domain)) ds

-- inside a branch's bindings and guards
abbrev pub inside : Way → List Item → Way
inside w [] = w
inside w (Bind x kind ∷ is) = inside (opening w x kind) is
inside w (Guard g ∷ is) = inside (supposing w g) is

-- with what is written, as it is read in v; all other names stand for what they do in s
abbrev pub leaving : Meaning → Assigned → Way → Way
leaving s ws v = standing v (with_terms (read_each v.store ws) s)

-- after a branch of the operation, inside which the parameters stand for the arguments as they are read before
abbrev pub after_branch : Way → Machine → Operation → List TermTree → List Name → Branch → Way
after_branch w m o ts xs b = leaving w.store (outcome m o xs b.writes) (inside (written w (terms_at (names o.params) ts)) b.items)

abbrev pub on_found : {A : Type 0} → Way → Option A → (A → List Claim) → List Claim
on_found w None f = shown w False
on_found w (Some a) f = f a

module _ (y : System) (c : Controller) where
  abbrev pub ways : ProcessTree → Way → List Claim
  ways Stop w = []
  ways Skip w = []
  ways (Call k ts) w = on_found w (slice_get c.definitions k) (λ d. shown (written w (terms_at (names d.params) ts)) (asked d))
  ways (Prefix (event.Output k ts note) p) w =
      on_found w (slice_get y.channels k) (λ ch. shown (written w (terms_at (names ch.values) ts)) (guarantee ch note)) ++ ways p w
  ways (Prefix (event.Input k xs note) p) w =
      on_found w (slice_get y.channels k) (λ ch. ways p (supposing (opening_each w (declared_as xs ch.values)) (assumption ch xs note)))
  ways (Prefix (event.Call k j ts xs) p) w =
      on_found w (slice_get y.machines k) (λ m. on_found w (slice_get m.operations j) (λ o.
      shown (written w (terms_at (names o.params) ts)) o.pre
      ++ flat_map (λ (b : Branch). ways p (supposing (after_branch w m o ts xs b) m.invariant)) (branches o.body)))
  ways (Choice p q) w = ways p w ++ ways q w
  ways (Internal p q) w = ways p w ++ ways q w
  ways (If f p q) w = ways p (supposing w f) ++ ways q (supposing w (Not f))

-- where a walk begins
abbrev pub at_first : List (Name × Kind) → Way
at_first ns = record { number = 0; names = ns; hypotheses = []; store = λ y. Var y }
