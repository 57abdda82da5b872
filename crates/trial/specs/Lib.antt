-- To be read in this order.
pub mod Noted
pub mod Trying
pub mod Numbered
pub mod Seeing
pub mod Gathering
pub mod Trials
