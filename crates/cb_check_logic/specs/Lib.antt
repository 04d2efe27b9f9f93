pub mod Laws
pub mod LogicRules
