pub mod Places
pub mod Worlds
pub mod WorldRuns
pub mod Questions
mod Found
mod Sizes
mod ReadBack
mod Lines
mod Written
pub mod Once
mod Pages
mod Progress
mod Happenings
mod LaidOut
mod Forms
mod Commands
mod WholeScript
mod Settled
mod Ends
mod Windows
mod Streams
mod Outputs
mod Reached
