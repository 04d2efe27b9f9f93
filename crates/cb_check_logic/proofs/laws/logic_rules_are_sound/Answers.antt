use Rattle.cb_check_logic.proofs.RuleSound.{logic_rule_sound}
use Rattle.cb_check_logic.proofs.laws.logic_rules_are_sound.Goals as goal

pub returns : goal.returns
returns c = logic_rule_sound
