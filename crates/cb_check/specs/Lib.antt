pub mod Derives
pub mod Laws
pub mod Told
pub mod Ways
