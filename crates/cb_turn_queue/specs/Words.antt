-- What clauses say of a turn on a queue and its passes.
use Rattle.std.specs.Prelude.{◌≡◌, ℕ, true, false, List, Option}
use Rattle.crossbeam_queue.specs.Passes.{view, IsPassOf}
use Rattle.cb_turn.specs.declared.view.View.{View}
use Rattle.cb_turn.specs.Views.{IsInOrder}
use Rattle.cb_turn_queue.specs.declared.turn.QueuePass.{QueuePass}
use Rattle.cb_turn_queue.specs.declared.turn.QueueTurn.{QueueTurn}

module _ {T P E : Type 0} where
  -- what the pass knows
  abbrev pub facts : QueuePass T P E → View P E
  facts p = view p.seat

  -- the plan of the value
  abbrev pub plan : QueuePass T P E → Option P
  plan p = (facts p).plan

  -- the entries that the pass has seen; while it holds the value, the list that it took
  abbrev pub seen : QueuePass T P E → List E
  seen p = (facts p).seen

  -- the places of the entries that it gave in
  abbrev pub mine : QueuePass T P E → List ℕ
  mine p = (facts p).mine

  -- it has taken the value and not given it back
  abbrev pub IsHolding : QueuePass T P E → Type 0
  IsHolding p = (facts p).holds ≡ true

  abbrev pub IsFree : QueuePass T P E → Type 0
  IsFree p = (facts p).holds ≡ false

  -- it came with the turn, and was not split off
  abbrev pub IsFirst : QueuePass T P E → Type 0
  IsFirst p = (facts p).first ≡ true

  -- the number of passes split off from it that are not joined
  abbrev pub splits : QueuePass T P E → ℕ
  splits p = (facts p).splits

  -- the pass is one of this turn and not joined, and its places are in order
  pub record Belongs (turn : QueueTurn T P E) (p : QueuePass T P E) : Type 0 where
    pub queue : IsPassOf turn.queue p.seat
    pub live : (facts p).spent ≡ false
    pub in_order : IsInOrder (facts p)
