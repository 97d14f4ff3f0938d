pub mod Faults
pub mod Requests
pub mod Responses
pub mod Gates
pub mod GateLaws
pub mod Crowds
