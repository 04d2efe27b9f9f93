pub mod KindLemmas
pub mod KindSound
pub mod MoreNames
pub mod PremiseLemmas
pub mod SetLemmas
