pub mod ClosedTruth
pub mod Evaluation
pub mod Walks
pub mod WideView
pub mod Laws
pub mod Told
pub mod TypedIn
