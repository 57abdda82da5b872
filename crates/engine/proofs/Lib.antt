pub mod Consistent
pub mod Keeping
pub mod Looking
pub mod Refusing
pub mod Allowed
pub mod Parts
