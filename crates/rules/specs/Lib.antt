pub mod Bounds
pub mod Enum
pub mod Union
pub mod Field
