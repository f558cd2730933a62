pub mod Layer
pub mod Standing
