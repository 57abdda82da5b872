-- To be read in this order. Clauses, assignments and derivations are in the crate cnf.
pub mod History
pub mod Forward
pub mod WellFormed
pub mod Propagating
pub mod Marks
pub mod Backward
pub mod Box
pub mod Agreement
pub mod Laws
pub mod Reading
pub mod Jobs
pub mod Slips
