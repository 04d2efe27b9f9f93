pub mod Counted
pub mod Laws
pub mod Linear
pub mod NumberRules
