-- What is met and owed at a call of an operation that is there.
use Rattle.std.proofs.Common.{◌≡◌, ℕ, Option, Some, None, slice_get, List, ◌++◌, append_assoc, sym, ap, ◌∙◌}
use Rattle.std.specs.Option.{unwrap_or}
use Rattle.cb_term.specs.declared.name.Name.{Name}
use Rattle.cb_term.specs.Tree.{TermTree}
use Rattle.cb_seq.specs.Validity.{Claim}
use Rattle.cb_spec.specs.declared.event.Event.TheVariants as event
use Rattle.cb_spec.specs.declared.system.Controller.{Controller}
use Rattle.cb_spec.specs.declared.system.Machine.{Machine}
use Rattle.cb_spec.specs.declared.system.Operation.{Operation}
use Rattle.cb_spec.specs.declared.system.System.{System}
use Rattle.cb_spec.specs.ProcessTree.{ProcessTree, Prefix}
use Rattle.cb_obligations.specs.Steps.{Step}
use Rattle.cb_conditions.specs.Steps.{steps_on, way_steps}
use Rattle.cb_conditions.specs.Ways.{Way, on_found, ways}
use Rattle.cb_ways.specs.Calls.{call_ways, call_steps, beside, operation_of}

by_pair : {A B : Type 0} (f : A → B) (a b : A) → Some a ≡ Some b → f a ≡ f b
by_pair f a b e = ap (λ r. f (unwrap_or r a)) e

met_where : (w : Way) (f : Machine → Operation → List Step) (n : Option Machine) (j : ℕ) (m : Machine) (o : Operation) → Some (m, o) ≡ operation_of n j →
    steps_on w n (λ (a : Machine). steps_on w (slice_get a.operations j) (f a)) ≡ f m o
met_where w f None j m o is = cc
met_where w f (Some n) j m o is = by_operation (slice_get n.operations j) is
  where
    by_operation : (q : Option Operation) → Some (m, o) ≡ beside n q → steps_on w q (f n) ≡ f m o
    by_operation None e = cc
    by_operation (Some q) e = sym (by_pair (λ (p : Machine × Operation). f p.0 p.1) (m, o) (n, q) e)

owed_where : (w : Way) (f : Machine → Operation → List Claim) (n : Option Machine) (j : ℕ) (m : Machine) (o : Operation) → Some (m, o) ≡ operation_of n j →
    on_found w n (λ (a : Machine). on_found w (slice_get a.operations j) (f a)) ≡ f m o
owed_where w f None j m o is = cc
owed_where w f (Some n) j m o is = by_operation (slice_get n.operations j) is
  where
    by_operation : (q : Option Operation) → Some (m, o) ≡ beside n q → on_found w q (f n) ≡ f m o
    by_operation None e = cc
    by_operation (Some q) e = sym (by_pair (λ (p : Machine × Operation). f p.0 p.1) (m, o) (n, q) e)

pub met_at_call : (y : System) (c : Controller) (k j : ℕ) (ts : List TermTree) (xs : List Name) (p : ProcessTree) (w : Way) (m : Machine) (o : Operation) →
    Some (m, o) ≡ operation_of (slice_get y.machines k) j → way_steps y c (Prefix (event.Call k j ts xs) p) w ≡ call_steps y c m o ts xs p w
met_at_call y c k j ts xs p w m o is = met_where w (λ a b. call_steps y c a b ts xs p w) (slice_get y.machines k) j m o is

pub owed_at_call : (y : System) (c : Controller) (k j : ℕ) (ts : List TermTree) (xs : List Name) (p : ProcessTree) (w : Way) (m : Machine) (o : Operation) →
    Some (m, o) ≡ operation_of (slice_get y.machines k) j → ways y c (Prefix (event.Call k j ts xs) p) w ≡ call_ways y c m o ts xs p w
owed_at_call y c k j ts xs p w m o is = owed_where w (λ a b. call_ways y c a b ts xs p w) (slice_get y.machines k) j m o is

-- one part behind the other
pub list_after : (old middle new xs ys : List Claim) → middle ≡ old ++ xs → new ≡ middle ++ ys → new ≡ old ++ (xs ++ ys)
list_after old middle new xs ys first second = second ∙ ap (λ l. l ++ ys) first ∙ append_assoc old xs ys
