pub mod ChannelLemmas
pub mod MarkLemmas
pub mod MeetLemmas
pub mod ReadyLemmas
pub mod TableLemmas
pub mod ViewLemmas
