pub mod EvaluatedLemmas
pub mod PerformedLemmas
