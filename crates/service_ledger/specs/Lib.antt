pub mod Leads
pub mod Sources
