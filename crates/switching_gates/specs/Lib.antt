pub mod Switching
