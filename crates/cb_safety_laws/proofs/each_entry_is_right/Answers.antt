use Rattle.cb_safety_laws.proofs.Runs.{each_entry_is_right}
use Rattle.cb_safety_laws.proofs.each_entry_is_right.Goals as goal

pub returns : goal.returns
returns c = each_entry_is_right
