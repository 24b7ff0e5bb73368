pub mod FindLaws
pub mod IndexLaws
pub mod FoundTypes
pub mod PartLaws
pub mod FoundRows
pub mod SpellingLaws
pub mod ReadableLaws
