pub mod FieldLaws
pub mod LinkLaws
