pub mod Trace
pub mod Replay
pub mod Runs
pub mod Times
pub mod Private
