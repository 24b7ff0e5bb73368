pub mod Cycles
pub mod Work
pub mod Answer
pub mod Search
pub mod Settle
pub mod Boards
