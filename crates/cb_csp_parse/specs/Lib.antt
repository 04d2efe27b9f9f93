pub mod TextKinds
pub mod Begun
pub mod Laws
