pub mod PassLaws
pub mod ChoiceLaws
pub mod KnownLaws
pub mod Assemble
pub mod Output
