use Rattle.cb_shapes.proofs.Texts.{text_full}
use Rattle.cb_shapes.proofs.laws.text_is_full.Goals as goal

pub returns : goal.returns
returns c = text_full c.machines_are_full.ensures
