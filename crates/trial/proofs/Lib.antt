pub mod Setting
pub mod Standing
