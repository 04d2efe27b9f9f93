pub mod Parts
pub mod Depths
pub mod Texts
pub mod Bytes
