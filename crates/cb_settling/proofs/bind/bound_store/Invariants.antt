use Rattle.std.proofs.Common.{◌≡◌, ◌≤◌, ◌++◌, length, drop, List}
use Rattle.cb_term.specs.declared.value.Value.{Value}
use Rattle.cb_spec.specs.Bound.{names, bound_look}
use Rattle.cb_spec.specs.Stores.{look_of}
use Rattle.cb_settling.proofs.bind.bound_store.Given as goal

-- the last parameters have the last values
abbrev pub invariant-loop-left : goal.invariant-loop-left
invariant-loop-left l = record {
  within : l.left ≤ length l.params;
  as_many : length l.args ≡ l.left;
  rest : (vs : List Value) × ((l.fn.args ≡ l.args ++ vs) × (look_of l.store ≡ bound_look (names (drop l.left l.params)) vs));
}

abbrev pub decreases-loop-left : goal.decreases-loop-left
decreases-loop-left l = l.left
