pub mod Turns
pub mod Replies
pub mod Law
