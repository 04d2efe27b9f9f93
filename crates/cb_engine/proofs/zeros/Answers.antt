use Rattle.cb_engine.proofs.zeros.Goals as goal

pub returns : goal.returns
returns c = c.in_ok-made.ensures.items_if_clones_equal (λ y h. h)
