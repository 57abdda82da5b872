pub mod Store
pub mod Seen
pub mod Laws
