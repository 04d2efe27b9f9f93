pub mod InitialLemmas
pub mod RoomLemmas
pub mod LayoutLemmas
pub mod BeginLemmas
