pub mod Show
pub mod Private
