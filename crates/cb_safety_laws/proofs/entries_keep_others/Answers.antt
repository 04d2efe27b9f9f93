use Rattle.cb_safety_laws.proofs.Frame.{entries_keep_others}
use Rattle.cb_safety_laws.proofs.entries_keep_others.Goals as goal

pub returns : goal.returns
returns c = entries_keep_others
