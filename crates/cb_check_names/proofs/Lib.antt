pub mod EqualLemmas
pub mod Mapping
pub mod OpenLemmas
pub mod ReplaceLemmas
pub mod RuleSound
