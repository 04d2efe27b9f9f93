pub mod Laws
pub mod NameRules
pub mod Replace
