pub mod ExactForms
pub mod FormValues
pub mod Products
pub mod RowLemmas
pub mod Sameness
pub mod StepLemmas
