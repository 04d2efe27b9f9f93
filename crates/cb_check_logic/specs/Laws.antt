-- The rules on connectives and booleans are sound.
use Rattle.std.specs.Prelude.{ℕ, List}
use Rattle.cb_seq.specs.declared.rule.Rule.{Rule}
use Rattle.cb_seq.specs.Premises.{Sound}
use Rattle.cb_check_logic.specs.LogicRules.{logic_premises}

-- the premises of a kinded claim are kinded, and where they are valid, so is the claim
abbrev pub LogicRulesAreSound : Type 0
LogicRulesAreSound = (sizes : List ℕ) (rule : Rule) → Sound sizes (logic_premises sizes) rule
