-- The laws behind the calls for many. Those of an overwritten array stand last in `Overwriting`.
pub mod Stretched
pub mod Preparing
pub mod Overwriting
pub mod Answering
