pub mod Marked
pub mod Classes
pub mod Table
pub mod Goes
pub mod Words
pub mod Nodes
pub mod Proofs
