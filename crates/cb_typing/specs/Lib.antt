pub mod Depths
pub mod Laws
pub mod Reflects
pub mod Sides
pub mod WrittenText
