pub mod Packed
pub mod Cases
