pub mod BranchLemmas
pub mod CountLemmas
pub mod LiveLemmas
