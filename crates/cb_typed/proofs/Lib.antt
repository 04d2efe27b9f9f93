pub mod Erasing
pub mod Naming
pub mod Fitting
pub mod Mapping
pub mod Kinding
pub mod Owing
