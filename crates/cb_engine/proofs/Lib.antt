pub mod Reaching
pub mod Moving
pub mod Turns
pub mod Indexing
