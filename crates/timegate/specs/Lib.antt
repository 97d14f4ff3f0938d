pub mod Route
pub mod Reply
pub mod Redirect
pub mod Promises
pub mod Served
