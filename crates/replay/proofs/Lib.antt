-- The laws of replaying.
pub mod Room
pub mod Says
mod Saying
mod Ends
pub mod Cutting
pub mod Runs
pub mod OneLine
pub mod Steady
pub mod States
mod Schedules
pub mod Worked
