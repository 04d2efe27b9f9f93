pub mod Branches
pub mod Resolving
pub mod Ops
pub mod Calling
