pub mod Bytes
pub mod Read
pub mod Rules
pub mod Write
pub mod Private
