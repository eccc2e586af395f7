pub mod Verdicts
pub mod Replies
pub mod Cases
pub mod Mends
