pub mod LayerLaws
pub mod KindLaws
pub mod FieldTypeLaws
