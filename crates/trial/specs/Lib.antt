-- what a trial promises
pub mod Faults
pub mod Running
pub mod Trying
-- what the functions inside promise one another
pub mod SettingUp
