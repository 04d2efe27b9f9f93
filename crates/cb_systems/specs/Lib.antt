pub mod Joins
pub mod Whole
