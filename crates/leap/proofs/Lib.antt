-- What the question of extension and replaying hand over, that the two formats agree, and what a contradiction means.
pub mod Formats
pub mod Extension
pub mod Contradiction
pub mod Replaying
