pub mod Schedule
pub mod Extends
pub mod WordLayout
pub mod Answers
pub mod Private
pub mod Rules
pub mod Left
