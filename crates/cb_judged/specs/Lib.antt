pub mod Judging
pub mod Kept
