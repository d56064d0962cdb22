-- The laws of the text list.
pub mod Cases
pub mod Digits
pub mod Follow
pub mod Laws
pub mod Steps
pub mod Sound
pub mod Places
pub mod Back
pub mod Spelling
pub mod Faults
pub mod Room
pub mod Longest
pub mod Numbers
