pub mod PartLemmas
pub mod TextLemmas
pub mod FillLemmas
pub mod RunLemmas
pub mod AskLemmas
