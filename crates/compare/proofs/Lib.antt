-- The laws of two lists that the crates above cite.
pub mod TwoTexts
pub mod Marks
pub mod Told
pub mod Bytes
pub mod Places
mod Written
pub mod Ahead
pub mod Going
pub mod Meaning
pub mod Shown
pub mod Parting
mod Early
pub mod Worked
pub mod Handed
pub mod Room
