-- The rules on quantifiers and equations are sound.
use Rattle.std.specs.Prelude.{ℕ, List}
use Rattle.cb_seq.specs.declared.rule.Rule.{Rule}
use Rattle.cb_seq.specs.Premises.{Sound}
use Rattle.cb_check_names.specs.NameRules.{name_premises}

-- the premises of a kinded claim are kinded, and where they are valid, so is the claim
abbrev pub NameRulesAreSound : Type 0
NameRulesAreSound = (sizes : List ℕ) (rule : Rule) → Sound sizes (name_premises sizes) rule
