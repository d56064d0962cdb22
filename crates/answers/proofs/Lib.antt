-- The laws of answers about a list.
pub mod Held
mod Told
pub mod Chosen
