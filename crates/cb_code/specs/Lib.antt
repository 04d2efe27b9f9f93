pub mod Nodes
pub mod Sides
