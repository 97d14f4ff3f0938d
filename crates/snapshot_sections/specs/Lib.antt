pub mod Sections
pub mod Faults
pub mod Refusals
pub mod Writing
