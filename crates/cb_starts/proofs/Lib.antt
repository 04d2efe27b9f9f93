pub mod Counting
pub mod Supposed
pub mod Together
pub mod Walked
