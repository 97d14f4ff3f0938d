pub mod Dates
pub mod Listing
pub mod Addresses
pub mod Json
pub mod Cdxj
pub mod Forms
pub mod Readback
