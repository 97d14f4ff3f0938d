pub mod Reading
pub mod Loops
pub mod SeriesLemmas
pub mod ExampleLemmas
pub mod LabelLemmas
