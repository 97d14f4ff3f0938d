mod Histories
pub mod Numbers
pub mod Sound
pub mod Moments
pub mod Explained
mod Deliveries
mod SentFirst
pub mod Stampings
pub mod Outcomes
mod Causes
pub mod Replies
mod Changes
mod Counted
mod Furthest
