pub mod Reach
pub mod Levels
pub mod Lookups
