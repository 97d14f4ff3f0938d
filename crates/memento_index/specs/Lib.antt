pub mod Choice
pub mod Holdings
pub mod Lists
pub mod Merges
pub mod Probes
pub mod Showing
pub mod Tallies
pub mod Counts
