pub mod Allowing
pub mod Errands
pub mod Verdicts
