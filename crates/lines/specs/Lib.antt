pub mod Faults
pub mod Pages
pub mod Put
pub mod Texts
pub mod Writes
