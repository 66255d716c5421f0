pub mod Lines
pub mod FactTerms
pub mod FactKinds
pub mod LineRead
