pub mod Complement
pub mod Lengths
pub mod Buffers
