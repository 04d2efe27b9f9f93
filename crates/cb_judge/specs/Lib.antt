pub mod Choices
pub mod Judged
pub mod Meanings
pub mod Substs
pub mod Sure
pub mod Writes
