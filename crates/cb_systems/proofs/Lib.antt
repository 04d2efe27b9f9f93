pub mod SameTables
pub mod Shapes
pub mod Making
pub mod Firsts
pub mod Orders
