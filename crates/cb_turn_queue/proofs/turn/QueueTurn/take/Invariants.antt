use Rattle.std.proofs.Common.{◌≡◌}
use Rattle.cb_turn_queue.specs.Words.{facts, Belongs}
use Rattle.cb_turn_queue.proofs.turn.QueueTurn.take.Given as goal

abbrev pub invariant-loop : goal.invariant-loop
invariant-loop g l =
    (goal.iterator-loop g).can_next l.iterator' × (goal.iterator-loop g).is_finite l.iterator'
    × Belongs l.self l.pass × (facts l.pass ≡ facts l.fn.pass)
