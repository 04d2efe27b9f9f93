pub mod Erasure
pub mod Laws
