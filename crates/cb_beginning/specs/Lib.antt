pub mod Begins
pub mod Initial
pub mod Layouts
pub mod Placed
pub mod Room
