pub mod Growing
pub mod Beside
