pub mod Finer
pub mod Following
pub mod Table
pub mod Values
pub mod Machines
pub mod Texts
pub mod Counting
