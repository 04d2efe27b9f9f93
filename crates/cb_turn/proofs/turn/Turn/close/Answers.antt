use Rattle.cb_turn.proofs.Moves.{closed_some, closed_value}
use Rattle.cb_turn.proofs.turn.Turn.close.Goals as goal

pub unwrap-requires : goal.unwrap-requires
unwrap-requires g c = let r = c.requires in
    closed_some g.T.Kept.plan g.T.Kept.list _ _ r.pass.live r.free r.first r.all_joined _ _ _ c.close_with-closed.ensures.values.2 c.take-value.ensures.value

pub returns-clause-plan : goal.returns-clause-plan
returns-clause-plan g c = let r = c.requires in
    (closed_value g.T.Kept.plan g.T.Kept.list _ _ r.pass.live r.free r.first r.all_joined _ _ _ _ c.close_with-closed.ensures.values.2 c.take-value.ensures.value c.unwrap.ensures).0

pub returns-clause-begins : goal.returns-clause-begins
returns-clause-begins g c = let r = c.requires in
    (closed_value g.T.Kept.plan g.T.Kept.list _ _ r.pass.live r.free r.first r.all_joined _ _ _ _ c.close_with-closed.ensures.values.2 c.take-value.ensures.value c.unwrap.ensures).1
