pub mod Faults
pub mod Meaning
pub mod Lowest
pub mod Limits
pub mod Looks
pub mod Trails
pub mod Sessions
pub mod Books
