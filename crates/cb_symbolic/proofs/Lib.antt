pub mod EntryLemmas
pub mod LimitLemmas
pub mod ReadingLemmas
pub mod ShowLemmas
pub mod WalkLemmas
