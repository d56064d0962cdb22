-- The laws of the lines of an input, and of answering them.
pub mod Lines
pub mod Streams
