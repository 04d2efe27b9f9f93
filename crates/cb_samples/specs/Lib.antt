pub mod Evaluated
pub mod Performed
