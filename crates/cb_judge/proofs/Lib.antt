pub mod Grows
pub mod Sureness
