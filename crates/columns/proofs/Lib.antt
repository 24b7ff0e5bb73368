pub mod ColumnLaws
pub mod RepeatLaws
