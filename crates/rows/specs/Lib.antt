pub mod Search
pub mod Parts
pub mod Types
pub mod Readable
pub mod Found
pub mod Index
