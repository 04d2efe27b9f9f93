pub mod Proofs
pub mod Printed
pub mod Unplaced
