pub mod RuleSound
