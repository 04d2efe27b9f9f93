pub mod Fronts
pub mod Kept
pub mod Listed
pub mod Steps
