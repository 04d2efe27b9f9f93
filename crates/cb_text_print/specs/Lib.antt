pub mod Processes
pub mod Texts
pub mod Unplaced
pub mod Printed
