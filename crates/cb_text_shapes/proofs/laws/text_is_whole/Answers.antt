use Rattle.cb_text_shapes.proofs.Texts.{whole_text}
use Rattle.cb_text_shapes.proofs.laws.text_is_whole.Goals as goal

pub returns : goal.returns
returns c = whole_text c.text_is_full.ensures
