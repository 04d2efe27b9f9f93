pub mod Cutting
pub mod Lengths
pub mod Longest
pub mod Numerals
pub mod Once
pub mod Signs
pub mod Spelled
