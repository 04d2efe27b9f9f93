-- The rules on sets and elements are sound.
use Rattle.std.specs.Prelude.{ℕ, List}
use Rattle.cb_seq.specs.declared.rule.Rule.{Rule}
use Rattle.cb_seq.specs.Premises.{Sound}
use Rattle.cb_check_sets.specs.SetRules.{set_premises}

-- the premises of a kinded claim are kinded, and where they are valid, so is the claim
abbrev pub SetRulesAreSound : Type 0
SetRulesAreSound = (sizes : List ℕ) (rule : Rule) → Sound sizes (set_premises sizes) rule
