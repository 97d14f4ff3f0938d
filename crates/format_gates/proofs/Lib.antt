pub mod ConvertedLemmas
pub mod OnceLemmas
