-- The rules on numbers and on evaluation are sound.
use Rattle.std.specs.Prelude.{ℕ, List}
use Rattle.cb_seq.specs.declared.rule.Rule.{Rule}
use Rattle.cb_seq.specs.Premises.{Sound}
use Rattle.cb_check_numbers.specs.NumberRules.{number_premises}

-- the premises of a kinded claim are kinded, and where they are valid, so is the claim
abbrev pub NumberRulesAreSound : Type 0
NumberRulesAreSound = (sizes : List ℕ) (rule : Rule) → Sound sizes (number_premises sizes) rule
