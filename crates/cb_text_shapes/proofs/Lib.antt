pub mod Counted
pub mod Refused
pub mod Chained
pub mod Texts
