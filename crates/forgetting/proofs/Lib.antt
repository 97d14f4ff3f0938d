pub mod RenewingLemmas
mod GoneLemmas
