pub mod Counts
mod Acts
mod Fair
mod Times
mod Led
mod Calls
pub mod Least
mod Ready
mod Left
mod Row
mod Share
