pub mod Ranges
pub mod Sending
