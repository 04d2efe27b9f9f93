pub mod Traces
pub mod RunTexts
