pub mod Places
pub mod Building
pub mod Listed
