pub mod PartRule
pub mod PartText
pub mod Filling
pub mod Asks
