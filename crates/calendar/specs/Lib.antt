pub mod Calendar
pub mod Greatest
