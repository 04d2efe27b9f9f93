pub mod Certificates
pub mod Given
pub mod Proofs
pub mod Verdicts
