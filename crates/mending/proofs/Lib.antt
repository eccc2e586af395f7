pub mod Growth
pub mod Noting
pub mod Along
pub mod Skipping
pub mod Passing
pub mod Own
pub mod Result
