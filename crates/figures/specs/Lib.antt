pub mod Digits
pub mod Figures
