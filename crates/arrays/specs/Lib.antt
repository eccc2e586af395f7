pub mod File
pub mod Agents
pub mod Opened
