pub mod Words
pub mod Rules
pub mod Judged
pub mod Reaches
pub mod Canonical
pub mod ChainTo
pub mod Examples
