pub mod Openings
pub mod Words
