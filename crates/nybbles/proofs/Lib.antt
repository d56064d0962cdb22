-- The laws of the nybble list that no one function owns.
mod Codes
mod Reading
pub mod Places
pub mod Plain
pub mod Sound
pub mod Early
pub mod Stored
mod Filled
mod Evened
pub mod Division
mod Packed
pub mod Meaning
pub mod Back
pub mod Room
pub mod RulesRead
pub mod RulesWrite
