use Rattle.cb_check_sets.proofs.RuleSound.{set_rule_sound}
use Rattle.cb_check_sets.proofs.laws.set_rules_are_sound.Goals as goal

pub returns : goal.returns
returns c = set_rule_sound
