pub mod Bounds
pub mod FieldTypes
pub mod Arguments
