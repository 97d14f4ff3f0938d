pub mod Listing
pub mod Paces
pub mod Peers
pub mod Rooms
pub mod Verdicts
