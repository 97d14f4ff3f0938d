pub mod Jobs
pub mod Queued
