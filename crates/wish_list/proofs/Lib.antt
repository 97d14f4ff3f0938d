pub mod AllowanceLemmas
pub mod Places
pub mod QueueLemmas
pub mod SettledLemmas
pub mod StageLemmas
