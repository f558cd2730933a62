pub mod Keywords
pub mod Lexemes
pub mod Running
pub mod Decimals
pub mod Amounting
pub mod Names
