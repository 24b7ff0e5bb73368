pub mod Bounds
pub mod Schema
