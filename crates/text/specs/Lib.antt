pub mod Faults
pub mod Formulas
pub mod Readers
pub mod Memory
pub mod Standard
pub mod Round
pub mod Grammar
