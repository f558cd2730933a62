pub mod Spelled
pub mod Faults
pub mod Books
