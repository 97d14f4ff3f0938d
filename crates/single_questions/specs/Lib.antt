pub mod Datetimes
pub mod Failings
pub mod Gathered
pub mod Outcomes
pub mod Wants
