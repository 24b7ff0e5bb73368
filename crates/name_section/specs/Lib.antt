pub mod NameSection
