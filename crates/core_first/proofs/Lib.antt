pub mod CoreCalls
pub mod CoreMarks
pub mod CoreServes
pub mod CoreTogether
pub mod CoreWhole
