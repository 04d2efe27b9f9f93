pub mod CodeLemmas
pub mod SidesLemmas
