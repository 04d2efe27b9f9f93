pub mod Belonging
pub mod Openings
