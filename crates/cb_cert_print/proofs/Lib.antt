pub mod Children
pub mod Pieces
pub mod Keyed
pub mod Spelled
pub mod Ended
pub mod PrintedBack
pub mod ReadAgain
