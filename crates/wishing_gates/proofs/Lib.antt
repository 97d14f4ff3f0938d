pub mod Absent
pub mod AskedLemmas
