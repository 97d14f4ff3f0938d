pub mod Moods
pub mod Standing
pub mod Lanes
pub mod Steps
pub mod Runs
pub mod Rows
pub mod Sharing
