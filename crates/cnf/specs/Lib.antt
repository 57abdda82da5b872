pub mod Literals
pub mod Order
pub mod Faults
pub mod Clauses
pub mod Propagation
pub mod Arranging
pub mod Ascending
pub mod Drafts
