pub mod Estimates
pub mod Greatest
pub mod Gregorian
pub mod Laws
pub mod Near
