pub mod Digits
pub mod Spells
