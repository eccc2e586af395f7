pub mod Search
pub mod Lists
pub mod Bits
