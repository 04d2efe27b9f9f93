pub mod Codes
pub mod Kept
pub mod Marks
pub mod Tables
