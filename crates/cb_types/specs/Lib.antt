pub mod Declares
pub mod MachineFaults
pub mod NormalMachines
