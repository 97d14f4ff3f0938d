pub mod Asking
pub mod Permits
pub mod Publishes
