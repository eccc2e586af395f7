pub mod Scope
