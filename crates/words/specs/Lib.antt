pub mod Lexis
pub mod Numbers
pub mod Texts
pub mod Runs
pub mod Reading
