pub mod TextLaws
pub mod NameSectionLaws
