pub mod Spellings
pub mod Scopes
pub mod Standing
pub mod Faults
pub mod Parsing
pub mod Writing
pub mod Compiling
