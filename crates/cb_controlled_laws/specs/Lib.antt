pub mod Laws
pub mod Tickets
pub mod Dice
