pub mod Counts
pub mod Acting
pub mod Chains
pub mod Controllers
pub mod Systems
pub mod Written
pub mod Texts
