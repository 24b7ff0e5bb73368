pub mod Examples
pub mod Wants
