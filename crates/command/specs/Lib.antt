pub mod Answer
pub mod Private
pub mod Lines
