pub mod Given
pub mod Heads
pub mod SameDefinitions
pub mod Sets
