pub mod Normal
pub mod NormalSubsts
