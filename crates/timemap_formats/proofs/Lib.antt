pub mod DateLemmas
pub mod ReadingLemmas
pub mod WritingLemmas
pub mod JsonLemmas
pub mod ListedLemmas
