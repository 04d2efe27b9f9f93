pub mod Faults
pub mod Find
pub mod Kinds
pub mod Spans
pub mod View
