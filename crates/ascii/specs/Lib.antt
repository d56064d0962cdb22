pub mod Ascii
pub mod Output
pub mod Decimal
pub mod Hex
pub mod Parts
pub mod Lines
pub mod Refusal
