pub mod Additions
pub mod Chains
pub mod Joins
