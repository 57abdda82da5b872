pub mod Core
pub mod CoreLaws
pub mod CoreSides
