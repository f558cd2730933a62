pub mod Hashes
pub mod Opening
pub mod Turns
pub mod Readiness
pub mod Leaves
pub mod Rules
pub mod Writes
pub mod Records
