pub mod Finding
pub mod Naming
