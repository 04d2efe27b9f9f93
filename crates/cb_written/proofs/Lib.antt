pub mod Pieces
pub mod Simple
pub mod Domains
pub mod Steps
pub mod Operations
pub mod Texts
pub mod Units
mod Standing
mod Expanding
mod Lines
mod ProofLines
