pub mod Cuts
pub mod Snapshots
pub mod Standing
pub mod Faults
