pub mod Record
pub mod Kinds
pub mod ArrayFile
pub mod FirstFailing
