pub mod ChoiceLemmas
pub mod PerformLemmas
