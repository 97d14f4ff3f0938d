mod AheadLemmas
mod FreshnessLemmas
mod KeepingLemmas
mod Pauses
