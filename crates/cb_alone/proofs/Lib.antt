pub mod CountLemmas
pub mod LengthLemmas
pub mod EndLemmas
pub mod IdleLemmas
pub mod RoundLemmas
