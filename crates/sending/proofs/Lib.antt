pub mod Ranges
pub mod Numbers
pub mod Bound
pub mod Reading
