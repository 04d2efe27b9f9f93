pub mod Hinted
pub mod PartsFit
pub mod Fine
pub mod Words
pub mod Answering
pub mod Lining
pub mod TermLining
