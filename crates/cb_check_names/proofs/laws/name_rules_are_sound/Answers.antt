use Rattle.cb_check_names.proofs.RuleSound.{name_rule_sound}
use Rattle.cb_check_names.proofs.laws.name_rules_are_sound.Goals as goal

pub returns : goal.returns
returns c = name_rule_sound
