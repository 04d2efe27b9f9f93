pub mod DomainLemmas
pub mod ExampleLemmas
pub mod RunLemmas
pub mod StoreLemmas
