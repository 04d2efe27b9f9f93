pub mod Annotated
pub mod Formulas
