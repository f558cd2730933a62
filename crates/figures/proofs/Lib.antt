pub mod Reading
pub mod Typing
pub mod Figures
