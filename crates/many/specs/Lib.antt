pub mod Many
pub mod Private
pub mod Asked
