pub mod Passing
pub mod Orders
pub mod Inserting
pub mod Ascents
pub mod Arranging
pub mod Complements
pub mod Derivations
pub mod Rising
