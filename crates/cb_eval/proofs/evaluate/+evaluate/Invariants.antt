use Rattle.std.proofs.Common.{◌≡◌, ℕ, Bool, Option, ◌≤◌, ◌-◌, ◌∷◌, length, drop, true, false, Some}
use Rattle.cb_term.specs.Sets.{IsAscending}
use Rattle.cb_term.specs.Table.{sizes_of}
use Rattle.cb_term.specs.Tree.{trees_of}
use Rattle.cb_spec.specs.Stores.{look_of}
use Rattle.cb_eval.specs.Evaluation.{items_in}
use Rattle.cb_eval.specs.Evaluation.{truth_in, until}
use Rattle.cb_eval.specs.Walks.{value_number}
use Rattle.cb_eval.proofs.evaluate.+evaluate.Given as goal

abbrev pub invariant-value_in-loop-left : goal.invariant-value_in-loop-left
invariant-value_in-loop-left l =
    (l.left ≤ length l.terms) × (l.bound.items ≡ l.initial.bound.items) × IsAscending l.items.items
    × (items_in (sizes_of l.sets) l.named (look_of l.store) l.bound.items (trees_of (drop l.left l.terms)) ≡ Some l.items.items)

abbrev pub decreases-truth_in : goal.decreases-truth_in
decreases-truth_in l = goal.size-truth_in l

abbrev pub decreases-value_in : goal.decreases-value_in
decreases-value_in l = goal.size-value_in l

abbrev pub decreases-value_in-loop-left : goal.decreases-value_in-loop-left
decreases-value_in-loop-left l = l.left

abbrev pub invariant-truth_in-loop-number : goal.invariant-truth_in-loop-number
invariant-truth_in-loop-number l =
    let answers : ℕ → Option Bool = λ i. truth_in (sizes_of l.sets) l.named (look_of l.store) (value_number (sizes_of l.sets) l.domain i ∷ l.initial.bound.items) l.body.value in
    (l.bound.items ≡ l.initial.bound.items) × (until true l.number (l.number-end - l.number) answers ≡ until true 0 l.number-end answers)

abbrev pub invariant-truth_in-loop-number-2 : goal.invariant-truth_in-loop-number-2
invariant-truth_in-loop-number-2 l =
    let answers : ℕ → Option Bool = λ i. truth_in (sizes_of l.sets) l.named (look_of l.store) (value_number (sizes_of l.sets) l.domain i ∷ l.initial.bound.items) l.body.value in
    (l.bound.items ≡ l.initial.bound.items) × (until false l.number (l.number-end - l.number) answers ≡ until false 0 l.number-end answers)
