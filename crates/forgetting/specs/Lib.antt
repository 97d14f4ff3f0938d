pub mod Renewing
pub mod Sifting
