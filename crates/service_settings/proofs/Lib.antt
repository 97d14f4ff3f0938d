pub mod KeyLemmas
pub mod NameLemmas
pub mod PlainLemmas
pub mod ThreadLemmas
pub mod ToldLemmas
