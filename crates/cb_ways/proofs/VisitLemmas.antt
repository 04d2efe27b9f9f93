-- Branches counted in a table, and visits counted by it.
use Rattle.std.proofs.Common.{◌≡◌, ℕ, zero, suc, ◌+◌, ◌*◌, ◌≤◌, min, leb, Bool, true, false, ◌&&◌, Option, Some, None, slice_get, List, [], ◌∷◌, map, refl, ap, ◌∙◌, arith, inl, inr}
use Rattle.std.proofs.Math.Nat.{mul-le-mul}
use Rattle.std.proofs.lemmas.Bool.{cases_lt}
use Rattle.std.proofs.lemmas.Bool.Decides.{nat_tests}
use Rattle.cb_spec.specs.declared.event.Event.{Event}
use Rattle.cb_spec.specs.declared.event.Event.TheVariants as event
use Rattle.cb_spec.specs.declared.system.Machine.{Machine}
use Rattle.cb_spec.specs.declared.system.Operation.{Operation}
use Rattle.cb_spec.specs.declared.system.System.{System}
use Rattle.cb_spec.specs.ProcessTree.{ProcessTree, Prefix}
use Rattle.cb_obligations.specs.Counts.{branch_count}
use Rattle.cb_conditions.specs.Steps.{of_operation, at_operation, visits, calls_within}
use Rattle.cb_ways.specs.Calls.{counts_of, machine_counts, get_at, count_at, event_within, ways_behind}

-- the number of branches, none above 257
abbrev pub counted : Operation → ℕ
counted o = min (branch_count o.body) 257

abbrev pub option_of : {A B : Type 0} → (A → B) → Option A → Option B
option_of f None = None
option_of f (Some x) = Some (f x)

get_mapped : {A B : Type 0} (f : A → B) (xs : List A) (k : ℕ) → slice_get (map f xs) k ≡ option_of f (slice_get xs k)
get_mapped f [] zero = refl
get_mapped f [] (suc k) = refl
get_mapped f (x ∷ xs) zero = refl
get_mapped f (x ∷ xs) (suc k) = get_mapped f xs k

abbrev pub number_at : Option Machine → ℕ → Option ℕ
number_at m j = at_operation m j None (λ (o : Operation). Some (counted o))

number_there : (o : Option Operation) → option_of counted o ≡ of_operation o None (λ (o : Operation). Some (counted o))
number_there None = refl
number_there (Some o) = refl

counts_there : (m : Option Machine) (j : ℕ) → get_at (option_of machine_counts m) j ≡ number_at m j
counts_there None j = refl
counts_there (Some m) j = get_mapped counted m.operations j ∙ number_there (slice_get m.operations j)

-- the table has the number of branches of each operation
count_there : (y : System) (k j : ℕ) → count_at (counts_of y) k j ≡ number_at (slice_get y.machines k) j
count_there y k j = ap (λ r. get_at r j) (get_mapped machine_counts y.machines k) ∙ counts_there (slice_get y.machines k) j

-- ---- what a number in the table says of the operation

within_by : (m : Option Machine) (j n : ℕ) → Some n ≡ number_at m j → at_operation m j true (λ (o : Operation). leb (branch_count o.body) 256) ≡ leb n 256
within_by None j n e = cc
within_by (Some m) j n e = by_operation (slice_get m.operations j) e
  where
    by_count : (a : ℕ) → n ≡ min a 257 → leb a 256 ≡ leb n 256
    by_count a is = grind (arith, nat_tests)

    by_operation : (o : Option Operation) → Some n ≡ of_operation o None (λ (o : Operation). Some (counted o)) →
        of_operation o true (λ (o : Operation). leb (branch_count o.body) 256) ≡ leb n 256
    by_operation None is = cc
    by_operation (Some o) is = by_count (branch_count o.body) cc

none_by : {A : Type 0} (m : Option Machine) (j : ℕ) (a : A) (f : Operation → A) → None ≡ number_at m j → at_operation m j a f ≡ a
none_by None j a f e = refl
none_by (Some m) j a f e = by_operation (slice_get m.operations j) e
  where
    by_operation : (o : Option Operation) → None ≡ of_operation o None (λ (o : Operation). Some (counted o)) → of_operation o a f ≡ a
    by_operation None is = refl
    by_operation (Some o) is = cc

behind_by : (m : Option Machine) (j n : ℕ) → Some n ≡ number_at m j → at_operation m j true (λ (o : Operation). leb (branch_count o.body) 256) ≡ true →
    at_operation m j 0 (λ (o : Operation). branch_count o.body) ≡ n
behind_by None j n e within = cc
behind_by (Some m) j n e within = by_operation (slice_get m.operations j) e within
  where
    by_count : (a : ℕ) → n ≡ min a 257 → leb a 256 ≡ true → a ≡ n
    by_count a is small = grind (arith, nat_tests)

    by_operation : (o : Option Operation) → Some n ≡ of_operation o None (λ (o : Operation). Some (counted o)) →
        of_operation o true (λ (o : Operation). leb (branch_count o.body) 256) ≡ true → of_operation o 0 (λ (o : Operation). branch_count o.body) ≡ n
    by_operation None is small = cc
    by_operation (Some o) is small = by_count (branch_count o.body) (cc) small

pub within_at : (y : System) (counts : List (List ℕ)) (k j n : ℕ) → counts ≡ counts_of y → Some n ≡ count_at counts k j →
    at_operation (slice_get y.machines k) j true (λ (o : Operation). leb (branch_count o.body) 256) ≡ leb n 256
within_at y counts k j n is at = within_by (slice_get y.machines k) j n (at ∙ ap (λ c. count_at c k j) is ∙ count_there y k j)

pub within_where_none : (y : System) (counts : List (List ℕ)) (k j : ℕ) → counts ≡ counts_of y → None ≡ count_at counts k j →
    at_operation (slice_get y.machines k) j true (λ (o : Operation). leb (branch_count o.body) 256) ≡ true
within_where_none y counts k j is at =
    none_by (slice_get y.machines k) j true (λ (o : Operation). leb (branch_count o.body) 256) (at ∙ ap (λ c. count_at c k j) is ∙ count_there y k j)

pub behind_at : (y : System) (counts : List (List ℕ)) (k j n : ℕ) → counts ≡ counts_of y → Some n ≡ count_at counts k j →
    at_operation (slice_get y.machines k) j true (λ (o : Operation). leb (branch_count o.body) 256) ≡ true →
    at_operation (slice_get y.machines k) j 0 (λ (o : Operation). branch_count o.body) ≡ n
behind_at y counts k j n is at within = behind_by (slice_get y.machines k) j n (at ∙ ap (λ c. count_at c k j) is ∙ count_there y k j) within

pub behind_where_none : (y : System) (counts : List (List ℕ)) (k j : ℕ) → counts ≡ counts_of y → None ≡ count_at counts k j →
    at_operation (slice_get y.machines k) j 0 (λ (o : Operation). branch_count o.body) ≡ 0
behind_where_none y counts k j is at =
    none_by (slice_get y.machines k) j 0 (λ (o : Operation). branch_count o.body) (at ∙ ap (λ c. count_at c k j) is ∙ count_there y k j)

-- ---- what follows an event

pub within_behind : (y : System) (e : Event) (p : ProcessTree) → calls_within y (Prefix e p) ≡ (event_within y e && calls_within y p)
within_behind y (event.Output k ts f) p = refl
within_behind y (event.Input k xs f) p = refl
within_behind y (event.Call k j ts xs) p = refl

one_more : (n : ℕ) → 1 + n ≡ 1 + 1 * n
one_more n = omega arith

times_at : (m : Option Machine) (j v : ℕ) → at_operation m j 0 (λ (o : Operation). branch_count o.body * v) ≡ at_operation m j 0 (λ (o : Operation). branch_count o.body) * v
times_at None j v = omega arith
times_at (Some m) j v = by_operation (slice_get m.operations j)
  where
    by_operation : (o : Option Operation) → of_operation o 0 (λ (o : Operation). branch_count o.body * v) ≡ of_operation o 0 (λ (o : Operation). branch_count o.body) * v
    by_operation None = omega arith
    by_operation (Some o) = refl

pub visits_behind : (y : System) (e : Event) (p : ProcessTree) → visits y (Prefix e p) ≡ 1 + ways_behind y e * visits y p
visits_behind y (event.Output k ts f) p = one_more (visits y p)
visits_behind y (event.Input k xs f) p = one_more (visits y p)
visits_behind y (event.Call k j ts xs) p = ap (λ n. 1 + n) (times_at (slice_get y.machines k) j (visits y p))

-- ---- the least

large : (t v : ℕ) → 65537 ≤ v → min (1 + suc t * 65537) 65537 ≡ min (1 + suc t * v) 65537
large t v le =
    let some : 1 ≤ suc t = omega arith in
    let same : 65537 ≤ 65537 = omega arith in
    let one : 1 * 65537 ≤ suc t * 65537 = mul-le-mul some same in
    let all : 1 * 65537 ≤ suc t * v = mul-le-mul some le in
    omega (arith, one, all)

pub least_behind : (t v : ℕ) → min (1 + t * min v 65537) 65537 ≡ min (1 + t * v) 65537
least_behind zero v = omega arith
least_behind (suc t) v =
    elim (cases_lt v 65537) [
      | inl lt ↦ let same : min v 65537 ≡ v = omega arith in ap (λ n. min (1 + suc t * n) 65537) same
      | inr le ↦ let same : min v 65537 ≡ 65537 = omega arith in ap (λ n. min (1 + suc t * n) 65537) same ∙ large t v le
    ]

-- ---- both sides

pub left_within : (a b : Bool) → (a && b) ≡ true → a ≡ true
left_within true b e = refl
left_within false b e = e

pub right_within : (a b : Bool) → (a && b) ≡ true → b ≡ true
right_within true b e = e
right_within false b e = cc
