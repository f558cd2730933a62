pub mod Filled
pub mod Told
