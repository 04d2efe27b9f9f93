pub mod Edge
pub mod Memory
pub mod Places
pub mod Real
pub mod Sinks
