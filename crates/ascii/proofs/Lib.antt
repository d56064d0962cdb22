-- The laws of output, decimal, hex and parts that the crates above cite.
pub mod Cases
pub mod Lists
pub mod Bytes
pub mod Putting
pub mod LeftUpTo
pub mod Digits
pub mod Signs
pub mod Integers
pub mod Halves
pub mod Splitting
pub mod Fields
pub mod Unbroken
pub mod Names
