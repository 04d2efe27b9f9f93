-- A pass stays one of its turn.
use Rattle.std.proofs.Common.{◌≡◌, List, Option, Some, None, MatchOption, refl, sym, ap, ◌∙◌, subst}
use Rattle.crossbeam_queue.specs.Passes.{IsSamePass}
use Rattle.cb_turn.specs.declared.view.View.{View}
use Rattle.cb_turn.specs.Views.{IsInOrder, Takes, taking}
use Rattle.cb_turn.proofs.Orders.{in_order_taking}
use Rattle.cb_turn_queue.specs.declared.turn.QueuePass.{QueuePass}
use Rattle.cb_turn_queue.specs.declared.turn.QueueTurn.{QueueTurn}
use Rattle.cb_turn_queue.specs.Words.{facts, Belongs}

module _ {T P E : Type 0} (turn : QueueTurn T P E) (old new : QueuePass T P E) where
  -- a step of the pass leaves it with this view
  pub belongs_after : (v : View P E) → Belongs turn old → IsSamePass old.seat new.seat → facts new ≡ v → v.spent ≡ (facts old).spent → IsInOrder v → Belongs turn new
  belongs_after v b same is spent in_order = record {
    queue = (same.0 ∙ b.queue.0, same.2 ∙ b.queue.1);
    live = ap (λ (u : View P E). u.spent) is ∙ spent ∙ b.live;
    in_order = subst (λ (u : View P E). IsInOrder u) (sym is) in_order;
  }

  -- after a take, or where there was nothing to take
  pub belongs_taken : (plan : T → P) (list : T → List E) (r : Option T) (A : Type 0) → Belongs turn old → IsSamePass old.seat new.seat → MatchOption r ((facts new ≡ facts old) × A) (λ x. Takes plan list (facts old) x (facts new)) → Belongs turn new
  belongs_taken plan list (Some x) A b same took = belongs_after (taking (facts old) (list x)) b same took.2 refl (in_order_taking (facts old) (list x) took.1 b.in_order)
  belongs_taken plan list None A b same took = belongs_after (facts old) b same took.0 refl b.in_order
