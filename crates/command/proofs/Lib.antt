-- The laws of question lines.
mod Fields
mod Unhexed
mod Unbroken
mod TwoLists
pub mod Streams
pub mod OneLine
pub mod Worked
pub mod Words
