pub mod Faults
pub mod Targets
pub mod Agents
pub mod Limits
pub mod Exchanges
pub mod Pulls
pub mod Addresses
pub mod Hosts
