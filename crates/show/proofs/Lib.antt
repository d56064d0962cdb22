-- The laws of the crate.
mod Stored
mod Going
pub mod Days
pub mod Dates
