pub mod Filter
pub mod Sieve
