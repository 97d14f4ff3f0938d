pub mod Finds
pub mod Decimals
pub mod Parts
