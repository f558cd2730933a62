pub mod Placing
pub mod Stacking
pub mod Entering
pub mod Variables
pub mod Settling
pub mod Keeping
pub mod Ranges
pub mod Reductions
pub mod Extending
pub mod Telling
pub mod Granting
pub mod Beginning
mod Fusing
mod Going
mod Extents
