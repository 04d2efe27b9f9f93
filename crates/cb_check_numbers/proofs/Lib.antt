pub mod LinearSound
pub mod NumberFacts
pub mod Refuted
pub mod RowSteps
pub mod RowSums
pub mod RuleSound
