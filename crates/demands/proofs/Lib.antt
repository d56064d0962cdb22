-- The promises.
pub mod Demands
