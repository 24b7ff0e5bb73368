pub mod Numbers
pub mod Rising
pub mod Runs
pub mod Lists
pub mod Examples
