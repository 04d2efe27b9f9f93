pub mod Performing
pub mod Picks
pub mod Trying
