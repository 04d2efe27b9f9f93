pub mod Form
pub mod Laws
pub mod Rows
pub mod Small
pub mod Steps
