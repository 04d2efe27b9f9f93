pub mod CallLemmas
pub mod VisitLemmas
pub mod WalkLemmas
