pub mod Lent
pub mod Stores
