pub mod Shown
pub mod Runs
pub mod Amounts
pub mod Faults
