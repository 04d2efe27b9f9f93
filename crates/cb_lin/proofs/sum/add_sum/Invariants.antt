use Rattle.std.proofs.Common.{◌≡◌, drop}
use Rattle.cb_lin.specs.Steps.{plus_parts}
use Rattle.cb_lin.proofs.sum.add_sum.Given as goal

abbrev pub invariant-loop-part : goal.invariant-loop-part
invariant-loop-part l = record {
  parts : plus_parts l.initial.sum.parts.items l.other.parts.items ≡ plus_parts l.sum.parts.items (drop l.part-index l.other.parts.items);
  constant : l.sum.constant ≡ l.initial.sum.constant;
}
