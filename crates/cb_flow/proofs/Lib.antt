pub mod UserSteps
pub mod Walks
