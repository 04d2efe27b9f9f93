use Rattle.cb_check_numbers.proofs.RuleSound.{number_rule_sound}
use Rattle.cb_check_numbers.proofs.laws.number_rules_are_sound.Goals as goal

pub returns : goal.returns
returns c = number_rule_sound
