pub mod Answers
pub mod Promise
pub mod Calls
pub mod Outputs
pub mod Exports
