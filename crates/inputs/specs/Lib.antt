pub mod Bounds
pub mod Names
pub mod InputObject
