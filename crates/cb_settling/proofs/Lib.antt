pub mod BindLemmas
pub mod ResolveLemmas
pub mod OpSteps
pub mod CalledLemmas
pub mod RoomLemmas
pub mod GoodLemmas
