pub mod Replies
pub mod Reports
pub mod Places
pub mod Trials
