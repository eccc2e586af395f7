pub mod Laws
pub mod Attempts
pub mod Noted
pub mod Told
