pub mod Numbers
pub mod Splitting
