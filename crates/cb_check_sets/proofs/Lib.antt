pub mod MemberLemmas
pub mod RuleSound
pub mod SetFacts
pub mod SetKinds
pub mod SetLaws
