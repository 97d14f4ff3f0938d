pub mod Fates
pub mod Sparing
