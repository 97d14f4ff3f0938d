pub mod Sections
pub mod Appending
pub mod Refusals
