pub mod Refusals
pub mod Laws
pub mod Mending
pub mod Calls
pub mod Cases
