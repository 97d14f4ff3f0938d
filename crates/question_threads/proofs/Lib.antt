mod HostLemmas
mod JobLemmas
mod QueuedLemmas
