pub mod Laws
pub mod Links
pub mod Gathering
