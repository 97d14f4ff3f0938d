pub mod World
pub mod Refusals
pub mod History
pub mod Faults
pub mod Agreement
pub mod Cursors
pub mod Incarnations
