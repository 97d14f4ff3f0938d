pub mod Restriction
pub mod Rules
pub mod Amounts
pub mod Floors
pub mod Examples
