pub mod DecimalLemmas
pub mod FrontLemmas
pub mod PartLemmas
