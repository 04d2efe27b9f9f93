-- The limits that come first, the whole list, and places in it.
use Rattle.std.proofs.Common.{◌≡◌, ℕ, zero, suc, ◌<◌, Bool, true, false, ◌&&◌, leb, List, [], ◌∷◌, ◌++◌, append_assoc, length, get_or, Some, slice_get, true≢false, refl, sym, ap, subst, ◌∙◌, if◌then◌else◌}
use Rattle.std.proofs.lemmas.Option.{slice_get_read}
use Rattle.cb_spec.specs.declared.event.Event.TheVariants as event
use Rattle.cb_spec.specs.declared.system.Controller.{Controller}
use Rattle.cb_spec.specs.declared.system.Definition.{Definition}
use Rattle.cb_spec.specs.declared.system.Machine.{Machine}
use Rattle.cb_spec.specs.declared.system.Operation.{Operation}
use Rattle.cb_spec.specs.declared.system.System.{System}
use Rattle.cb_spec.specs.States.{IsAt}
use Rattle.cb_spec.specs.ProcessTree.{ProcessTree, Stop, Skip, Call, Prefix, Choice, Internal, If}
use Rattle.cb_obligations.specs.Counts.{branch_count}
use Rattle.cb_obligations.specs.Owed.{Owed}
use Rattle.cb_wp.specs.declared.limits.MakeFault.{MakeFault}
use Rattle.cb_wp.specs.declared.limits.MakeFault.TheVariants as fault
use Rattle.cb_wp.specs.declared.limits.Used.{Used}
use Rattle.cb_wp.specs.declared.limits.Which.TheVariants as which
use Rattle.cb_wp.specs.Limits.{Tells, Count, Passed, At, Faulted, count, passed, machine_steps}
use Rattle.cb_wp.specs.Limits as machine
use Rattle.cb_conditions.specs.Conditions.{definitions_owe}
use Rattle.cb_conditions.specs.Steps.{at_operation, of_operation, calls_within}
use Rattle.cb_owed.specs.Limits.{machines_within}
use Rattle.cb_owed.specs.Parts.{definition_owes}

and_left : (a b : Bool) → (a && b) ≡ true → a ≡ true
and_left true b h = refl
and_left false b h = h

and_right : (a b : Bool) → (a && b) ≡ true → b ≡ true
and_right true b h = h
and_right false b h = absurd (true≢false (sym h))

both : (a b : Bool) → a ≡ true → b ≡ true → (a && b) ≡ true
both true b p q = q
both false b p q = p

-- ---- machines within the limit, and calls of their operations

pub first_within : (ms rest : List Machine) (m : Machine) → ms ≡ m ∷ rest → machines_within ms ≡ true → machine.branches_within m ≡ true
first_within ms rest m is h = and_left (machine.branches_within m) (machines_within rest) (sym (ap machines_within is) ∙ h)

pub rest_within : (ms rest : List Machine) (m : Machine) → ms ≡ m ∷ rest → machines_within ms ≡ true → machines_within rest ≡ true
rest_within ms rest m is h = and_right (machine.branches_within m) (machines_within rest) (sym (ap machines_within is) ∙ h)

operation_within : (os : List Operation) (j : ℕ) → machine.bodies_within os ≡ true → of_operation (slice_get os j) true (λ (o : Operation). leb (branch_count o.body) 256) ≡ true
operation_within [] zero h = refl
operation_within [] (suc j) h = refl
operation_within (o ∷ os) zero h = and_left (leb (branch_count o.body) 256) (machine.bodies_within os) h
operation_within (o ∷ os) (suc j) h = operation_within os j (and_right (leb (branch_count o.body) 256) (machine.bodies_within os) h)

called_within : (ms : List Machine) (k j : ℕ) → machines_within ms ≡ true → at_operation (slice_get ms k) j true (λ (o : Operation). leb (branch_count o.body) 256) ≡ true
called_within [] zero j h = refl
called_within [] (suc k) j h = refl
called_within (m ∷ ms) zero j h =
    operation_within m.operations j (and_right (leb (branch_count m.init) 256) (machine.bodies_within m.operations) (and_left (machine.branches_within m) (machines_within ms) h))
called_within (m ∷ ms) (suc k) j h = called_within ms k j (and_right (machine.branches_within m) (machines_within ms) h)

pub all_calls_within : (y : System) (p : ProcessTree) → machines_within y.machines ≡ true → calls_within y p ≡ true
all_calls_within y Stop h = refl
all_calls_within y Skip h = refl
all_calls_within y (Call k ts) h = refl
all_calls_within y (Prefix (event.Output k ts f) p) h = all_calls_within y p h
all_calls_within y (Prefix (event.Input k xs f) p) h = all_calls_within y p h
all_calls_within y (Prefix (event.Call k j ts xs) p) h =
    both (at_operation (slice_get y.machines k) j true (λ (o : Operation). leb (branch_count o.body) 256)) (calls_within y p) (called_within y.machines k j h) (all_calls_within y p h)
all_calls_within y (Choice p q) h = both (calls_within y p) (calls_within y q) (all_calls_within y p h) (all_calls_within y q h)
all_calls_within y (Internal p q) h = both (calls_within y p) (calls_within y q) (all_calls_within y p h) (all_calls_within y q h)
all_calls_within y (If f p q) h = both (calls_within y p) (calls_within y q) (all_calls_within y p h) (all_calls_within y q h)

-- ---- one machine's fault

pub faulted : (e : MakeFault) (u : Used) (m : Machine) → machine.branches_within m ≡ true → Tells e (machine.first_limit u m) → Faulted e u (machine_steps m)
faulted (fault.Limit w) u m within t = by (count u.obligations u.nodes (machine_steps m)) (sym (ap (λ (b : Bool). if b then passed (count u.obligations u.nodes (machine_steps m)) else Some which.Branches) within) ∙ t)
  where
    by : (c : Count) → passed c ≡ Some w → c ≡ Passed w
    by (Passed x) p = cc
    by (At o n) p = cc
faulted fault.Memory u m within t = t

-- ---- a controller's definitions

pub owes_step : (y : System) (c : Controller) (d : Definition) (left rest : List Definition) (old new whole : List Owed) → left ≡ d ∷ rest →
    new ≡ old ++ definition_owes y c d → old ++ definitions_owe y c left ≡ whole → new ++ definitions_owe y c rest ≡ whole
owes_step y c d left rest old new whole is is_new so_far =
    ap (λ l. l ++ definitions_owe y c rest) is_new ∙ append_assoc old (definition_owes y c d) (definitions_owe y c rest)
    ∙ ap (λ l. old ++ definitions_owe y c l) (sym is) ∙ so_far

-- ---- places

pub at_place : {A : Type 0} (xs ys : List A) (k : ℕ) (x : A) → xs ≡ ys → k < length ys → x ≡ get_or xs k x → IsAt ys k x
at_place {A = A} xs ys k x e lt is =
    subst (λ (l : List A). slice_get l k ≡ Some x) e (slice_get_read xs (length ys) k x (sym (ap length e)) lt is)

one_place : {A : Type 0} (xs : List A) (k : ℕ) (x z : A) → slice_get xs k ≡ Some x → slice_get xs k ≡ Some z → x ≡ z
one_place xs k x z p q = cc

-- what is true of the controller at the place
pub of_controller : (P : Controller → Type 0) (cs : List Controller) (i : ℕ) (own c : Controller) → IsAt cs i own → P own → IsAt cs i c → P c
of_controller P cs i own c here p there = subst P (one_place cs i own c here there) p

-- and of its definition at the place
pub of_definition : (P : Controller → Definition → Type 0) (cs : List Controller) (i j : ℕ) (own c : Controller) (body d : Definition) →
    IsAt cs i own → IsAt own.definitions j body → P own body → IsAt cs i c → IsAt c.definitions j d → P c d
of_definition P cs i j own c body d here inside p there within =
    let e : own ≡ c = one_place cs i own c here there in
    let f : body ≡ d = one_place own.definitions j body d inside (subst (λ (q : Controller). IsAt q.definitions j d) (sym e) within) in
    subst (λ (q : Controller). P q d) e (subst (λ (b : Definition). P own b) f p)
