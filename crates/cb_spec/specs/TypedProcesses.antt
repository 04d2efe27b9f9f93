-- Processes whose names are known and whose kinds and numbers of arguments are right.
use Rattle.std.specs.Prelude.{ℕ, ◌≡◌, List, [], ◌∷◌, ◌++◌, map, length, slice_get, Option, Some, None, IsSomeAnd, Contains, ⊤}
use Rattle.cb_term.specs.declared.name.Name.{Name}
use Rattle.cb_term.specs.declared.kind.Kind.{Kind}
use Rattle.cb_term.specs.Tree.{TermTree, FormulaTree}
use Rattle.cb_spec.specs.declared.event.Event.TheVariants as event
use Rattle.cb_spec.specs.declared.system.Controller.{Controller}
use Rattle.cb_spec.specs.declared.system.Declared.{Declared}
use Rattle.cb_spec.specs.declared.system.Machine.{Machine}
use Rattle.cb_spec.specs.declared.system.Operation.{Operation}
use Rattle.cb_spec.specs.declared.system.System.{System}
use Rattle.cb_spec.specs.ProcessTree.{ProcessTree, Stop, Skip, Call, Prefix, Choice, Internal, If}
use Rattle.cb_spec.specs.Domains.{kind_of_domain}
use Rattle.cb_spec.specs.Bound.{names, result_names}
use Rattle.cb_spec.specs.Forms.{Form, form_of_domain}
use Rattle.cb_spec.specs.Journals.{set_sizes}
use Rattle.cb_spec.specs.TypedTerms.{Scope, IsNew, TypedFormula, TypedAs}
use Rattle.cb_spec.specs.TypedSubsts.{assigned_form, result_form}

-- each name is new, also among those before it
abbrev pub AreNew : List Name → List Name → Type 0
AreNew taken [] = ⊤
AreNew taken (x ∷ xs) = IsNew taken x × AreNew (x ∷ taken) xs

-- what is known of declared names, and of a machine's variables
abbrev pub scope_of : List Declared → Scope
scope_of ds = map (λ (d : Declared). (d.name, form_of_domain d.domain)) ds

abbrev pub kinds_of : List Declared → List Kind
kinds_of ds = map (λ (d : Declared). kind_of_domain d.domain) ds

-- names in the order of the declared ones, with what is known of those
abbrev pub scope_at : List Name → List Declared → Scope
scope_at [] ds = []
scope_at (x ∷ xs) [] = []
scope_at (x ∷ xs) (d ∷ ds) = (x, form_of_domain d.domain) ∷ scope_at xs ds

-- what is known in an operation
abbrev pub scope_in : Machine → Operation → Scope
scope_in m o = scope_of o.params ++ scope_of m.variables

-- what is known of an operation's results
abbrev pub result_forms : List ℕ → Machine → Operation → List Form
result_forms sizes m o = map (λ x. result_form (assigned_form sizes x (scope_in m o) o.body)) (result_names o.results)

abbrev pub scope_with : List Name → List Form → Scope
scope_with [] fs = []
scope_with (x ∷ xs) [] = []
scope_with (x ∷ xs) (f ∷ fs) = (x, f) ∷ scope_with xs fs

-- one typed term for each kind
abbrev pub TypedArgs : List ℕ → Scope → List Name → List Kind → List TermTree → Type 0
TypedArgs sizes scope taken [] [] = ⊤
TypedArgs sizes scope taken [] (t ∷ ts) = ⊥
TypedArgs sizes scope taken (k ∷ ks) [] = ⊥
TypedArgs sizes scope taken (k ∷ ks) (t ∷ ts) = TypedAs sizes scope taken k t × TypedArgs sizes scope taken ks ts

-- an annotation, where there is one
abbrev pub TypedNote : List ℕ → Scope → List Name → Option FormulaTree → Type 0
TypedNote sizes scope taken None = ⊤
TypedNote sizes scope taken (Some f) = TypedFormula sizes scope taken [] f

-- the process is one of the controller with the number i. `global` are the names that stand for one thing in the whole text,
-- `scope` has what is known of names, and `taken` the names that are in use
module _ (y : System) (global : List Name) (i : ℕ) (c : Controller) where
  abbrev pub TypedProcess : Scope → List Name → ProcessTree → Type 0
  TypedProcess scope taken Stop = ⊤
  TypedProcess scope taken Skip = ⊤
  TypedProcess scope taken (Call k ts) = IsSomeAnd (slice_get c.definitions k) (λ d. TypedArgs (set_sizes y) scope taken (kinds_of d.params) ts)
  TypedProcess scope taken (Prefix (event.Output k ts note) p) =
      IsSomeAnd (slice_get y.channels k) (λ ch. (ch.sender ≡ i) × TypedArgs (set_sizes y) scope taken (kinds_of ch.values) ts
      × TypedNote (set_sizes y) (scope_of ch.values) (names ch.values ++ global) note)
      × TypedProcess scope taken p
  TypedProcess scope taken (Prefix (event.Input k xs note) p) =
      AreNew taken xs × IsSomeAnd (slice_get y.channels k) (λ ch. (ch.receiver ≡ i) × (length xs ≡ length ch.values)
      × TypedNote (set_sizes y) (scope_at xs ch.values) (xs ++ global) note
      × TypedProcess (scope_at xs ch.values ++ scope) (xs ++ taken) p)
  TypedProcess scope taken (Prefix (event.Call k j ts xs) p) =
      Contains c.machines k × AreNew taken xs × IsSomeAnd (slice_get y.machines k) (λ m. IsSomeAnd (slice_get m.operations j) (λ o.
      TypedArgs (set_sizes y) scope taken (kinds_of o.params) ts × (length xs ≡ length o.results)
      × TypedProcess (scope_with xs (result_forms (set_sizes y) m o) ++ scope) (xs ++ taken) p))
  TypedProcess scope taken (Choice p q) = TypedProcess scope taken p × TypedProcess scope taken q
  TypedProcess scope taken (Internal p q) = TypedProcess scope taken p × TypedProcess scope taken q
  TypedProcess scope taken (If f p q) =
      TypedFormula (set_sizes y) scope taken [] f × TypedProcess scope taken p × TypedProcess scope taken q
