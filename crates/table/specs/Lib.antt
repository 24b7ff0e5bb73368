pub mod Kinds
pub mod Layout
pub mod Refusals
pub mod Answers
pub mod Tables
