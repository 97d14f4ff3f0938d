pub mod Entries
pub mod Lists
pub mod Rows
pub mod Spellings
pub mod Withdrawals
