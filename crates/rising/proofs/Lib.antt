pub mod ContainLaws
pub mod HalfLaws
pub mod NumberLaws
pub mod ListLaws
pub mod RunLaws
