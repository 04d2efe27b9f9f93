pub mod Lists
pub mod Hearing
pub mod Owning
pub mod Answering
pub mod Building
pub mod Once
