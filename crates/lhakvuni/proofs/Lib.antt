pub mod PromiseLaws
pub mod NumberLaws
pub mod OutputLaws
pub mod CallLaws
pub mod OneAnswer
pub mod EvidenceLaws
pub mod ExportLaws
pub mod WholeCase
