pub mod Belonging
pub mod Moves
pub mod Orders
pub mod Steps
pub mod Sums
