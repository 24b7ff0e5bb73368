pub mod Chains
pub mod Fields
pub mod Links
