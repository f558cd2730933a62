pub mod Tree
pub mod Record
pub mod Kinds
pub mod Limits
pub mod Buffers
