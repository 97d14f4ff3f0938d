mod MadeLemmas
mod SourceLemmas
pub mod CallLemmas
