use Rattle.cb_check.proofs.CheckSound.{derived_valid}
use Rattle.cb_check.proofs.laws.derived_is_valid.Goals as goal

pub returns : goal.returns
returns c = derived_valid c.logic_rules_are_sound.ensures c.name_rules_are_sound.ensures c.number_rules_are_sound.ensures c.set_rules_are_sound.ensures
