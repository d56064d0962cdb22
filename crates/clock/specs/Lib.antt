-- The clock's definitions, in the order of the paper.
pub mod Days
pub mod Smoothed
pub mod Document002
pub mod Known
pub mod Question
pub mod Taken
pub mod Lists
pub mod Answers
pub mod Rules
