pub mod Moves
pub mod Laws
pub mod Chunks
