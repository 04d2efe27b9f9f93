-- Faults and counts through lists of steps.
use Rattle.std.proofs.Common.{◌≡◌, ℕ, ◌≤◌, List, [], ◌∷◌, ◌++◌, length, take, append_assoc, sym, ap, subst, ◌∙◌}
use Rattle.std.proofs.lemmas.List.{take-take}
use Rattle.cb_term.specs.declared.name.Name.{Name}
use Rattle.cb_term.specs.Tree.{TermTree}
use Rattle.cb_obligations.specs.Branches.{Item, Assigned}
use Rattle.cb_obligations.specs.Steps.{Step, Weigh}
use Rattle.cb_wp.specs.declared.limits.MakeFault.{MakeFault}
use Rattle.cb_wp.specs.declared.limits.MakeFault.TheVariants as fault
use Rattle.cb_wp.specs.declared.limits.Used.{Used}
use Rattle.cb_wp.specs.Limits.{count, Counted, Faulted}
use Rattle.cb_wp.proofs.CountLemmas.{count_after, count_passed}
use Rattle.cb_conditions.specs.Reading.{Meaning, read_term}
use Rattle.cb_conditions.specs.Steps.{inside_steps, weigh_each}
use Rattle.cb_conditions.specs.Ways.{Way}
use Rattle.cb_symbolic.specs.Walks.{Passes, Stops}

-- the same fault where the counts are the same
pub faulted_as : (e : MakeFault) (u v : Used) (ps qs : List Step) → count u.obligations u.nodes ps ≡ count v.obligations v.nodes qs → Faulted e u ps → Faulted e v qs
faulted_as (fault.Limit w) u v ps qs same f = sym same ∙ f
faulted_as fault.Memory u v ps qs same f = f

pub faulted_before : (e : MakeFault) (u : Used) (ps qs : List Step) → Faulted e u ps → Faulted e u (ps ++ qs)
faulted_before (fault.Limit w) u ps qs f = count_passed ps qs u.obligations u.nodes w f
faulted_before fault.Memory u ps qs f = f

pub faulted_after : (e : MakeFault) (u v : Used) (ps qs : List Step) → Counted u v ps → Faulted e v qs → Faulted e u (ps ++ qs)
faulted_after e u v ps qs here f =
    faulted_as e v u qs (ps ++ qs) (sym (count_after ps qs u.obligations u.nodes v.obligations v.nodes here)) f

-- the first entries of a list that goes on are its own
pub first_of_longer : {A : Type 0} (n : ℕ) (xs ys : List A) → n ≤ length xs → take (length xs) ys ≡ xs → take n ys ≡ take n xs
first_of_longer n xs ys le e = sym (take-take n (length xs) ys le) ∙ ap (take n) e

-- ---- the fault of one part is that of what is left, and so of all

pub weighing_stops : (s : Meaning) (w : Name × TermTree) (left rest all : Assigned) (e : MakeFault) (u : Used) → left ≡ w ∷ rest →
    count u.obligations u.nodes (weigh_each s left) ≡ count u.obligations u.nodes (weigh_each s all) →
    ((v : Used) (steps : List Step) → Faulted e v (Weigh (read_term s w.1) ∷ steps)) → Faulted e u (weigh_each s all)
weighing_stops s w left rest all e u is so_far stops =
    faulted_as e u u (weigh_each s (w ∷ rest)) (weigh_each s all)
    (ap (λ l. count u.obligations u.nodes (weigh_each s l)) (sym is) ∙ so_far) (stops u (weigh_each s rest))

pub entering_stops : (w first : Way) (i : Item) (left rest all : List Item) (e : MakeFault) (u : Used) → left ≡ i ∷ rest →
    count u.obligations u.nodes (inside_steps w left) ≡ count u.obligations u.nodes (inside_steps first all) →
    ((v : Used) (is : List Item) → Faulted e v (inside_steps w (i ∷ is))) → Faulted e u (inside_steps first all)
entering_stops w first i left rest all e u is so_far stops =
    faulted_as e u u (inside_steps w (i ∷ rest)) (inside_steps first all)
    (ap (λ l. count u.obligations u.nodes (inside_steps w l)) (sym is) ∙ so_far) (stops u rest)

-- ---- a branch: its items, its results, the invariant, and the process after it

together : (ps qs rest : List Step) (r : Step) → (ps ++ (qs ++ r ∷ [])) ++ rest ≡ ps ++ (qs ++ r ∷ rest)
together ps qs rest r = append_assoc ps (qs ++ r ∷ []) rest ∙ ap (λ l. ps ++ l) (append_assoc qs (r ∷ []) rest)

pub entry_counted : (u : Used) (ps qs : List Step) (r : Step) → Counted u u ps → Counted u u qs → Passes r → Counted u u (ps ++ (qs ++ r ∷ []))
entry_counted u ps qs r first second passes =
    count_after ps (qs ++ r ∷ []) u.obligations u.nodes u.obligations u.nodes first
    ∙ count_after qs (r ∷ []) u.obligations u.nodes u.obligations u.nodes second ∙ passes u.obligations u.nodes []

pub entry_stops : (e : MakeFault) (u : Used) (ps qs : List Step) (r : Step) → Counted u u ps → Counted u u qs → Stops e r → Faulted e u (ps ++ (qs ++ r ∷ []))
entry_stops e u ps qs r first second stops = faulted_after e u u ps (qs ++ r ∷ []) first (faulted_after e u u qs (r ∷ []) second (stops u []))

pub branch_counted : (u v : Used) (ps qs rest : List Step) (r : Step) → Counted u u (ps ++ (qs ++ r ∷ [])) → Counted u v rest → Counted u v (ps ++ (qs ++ r ∷ rest))
branch_counted u v ps qs rest r entry behind =
    ap (count u.obligations u.nodes) (sym (together ps qs rest r))
    ∙ count_after (ps ++ (qs ++ r ∷ [])) rest u.obligations u.nodes u.obligations u.nodes entry ∙ behind

pub branch_stops : (e : MakeFault) (u : Used) (ps qs rest : List Step) (r : Step) → Faulted e u (ps ++ (qs ++ r ∷ [])) → Faulted e u (ps ++ (qs ++ r ∷ rest))
branch_stops e u ps qs rest r f = subst (Faulted e u) (together ps qs rest r) (faulted_before e u (ps ++ (qs ++ r ∷ [])) rest f)

pub branch_faults : (e : MakeFault) (u : Used) (ps qs rest : List Step) (r : Step) → Counted u u (ps ++ (qs ++ r ∷ [])) → Faulted e u rest → Faulted e u (ps ++ (qs ++ r ∷ rest))
branch_faults e u ps qs rest r entry f = subst (Faulted e u) (together ps qs rest r) (faulted_after e u u (ps ++ (qs ++ r ∷ [])) rest entry f)
