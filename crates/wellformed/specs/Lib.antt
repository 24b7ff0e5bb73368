pub mod WellFormed
pub mod Answers
pub mod Sound
pub mod Examples
