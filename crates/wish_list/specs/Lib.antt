pub mod Allowance
pub mod Asked
pub mod Examples
pub mod Jobs
pub mod Queue
pub mod Stages
pub mod Tables
pub mod Wishing
