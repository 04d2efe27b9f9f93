use Rattle.std.proofs.Common.{◌+◌, ap, ◌∙◌}
use Rattle.cb_code.specs.declared.sides.Sides.TheInside.{Inside}
use Rattle.cb_code.proofs.SidesLemmas.{pushed_left, pushed_right}
use Rattle.cb_code.proofs.sides.Sides.push.Goals.{then-right, else-right}
use Rattle.cb_code.proofs.sides.Sides.push.Goals as goal

pub returns : goal.returns
returns c = elim c.if-right.branch [
  | then-right w ↦ pushed_right c.self.inside.count c.self.inside.bits c.if-right.self-inside.count c.if-right.self-inside.bits _ _ c.self.view_is c.self.invariant.1
      (ap (λ (r : Inside). r.count) w.self-inside-is) (ap (λ (r : Inside). r.bits) w.self-inside-is ∙ ap (λ p. c.self.inside.bits + p) w.pow.ensures) w.if-right.true
  | else-right w ↦ pushed_left c.self.inside.count c.self.inside.bits c.if-right.self-inside.count c.if-right.self-inside.bits _ _ c.self.view_is c.self.invariant.1
      (ap (λ (r : Inside). r.count) w.self-inside-is) (ap (λ (r : Inside). r.bits) w.self-inside-is) w.if-right.false
]
