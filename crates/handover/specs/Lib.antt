pub mod Refusals
pub mod Front
pub mod Mending
pub mod Engine
pub mod Bodies
pub mod Files
