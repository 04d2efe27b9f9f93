pub mod Arguments
pub mod Scopes
