pub mod Bounds
pub mod Object
pub mod Validation
pub mod Examples
