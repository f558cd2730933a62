pub mod Begins
pub mod Told
