pub mod Search
pub mod Lists
pub mod Bits
pub mod Put
