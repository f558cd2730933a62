pub mod Bytes
pub mod Proper
pub mod Questions
pub mod Faults
pub mod Nodes
pub mod Reading
pub mod Laws
