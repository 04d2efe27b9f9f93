use Rattle.std.proofs.Common.{refl, ap, sym, ◌∙◌, ◌++◌, ◌∷◌, [], Some}
use Rattle.cb_turn.proofs.Moves.{begins}
use Rattle.cb_turn.proofs.turn.Turn.start.Goals as goal

pub new-requires : goal.new-requires
new-requires g c = begins g.T.Kept.plan g.T.Kept.list c.of-about.result.value _ _ refl
    (c.push_reserved.ensures.items ∙ ap (λ l. l ++ Some c.args.value ∷ []) c.in_ok-slots.ensures.items ∙ ap (λ x. Some x ∷ []) (sym c.of-about.ensures))
