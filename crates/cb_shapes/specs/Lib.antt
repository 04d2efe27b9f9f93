pub mod Full
pub mod Words
pub mod Laws
