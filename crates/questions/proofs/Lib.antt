-- The laws behind the five questions, one at a time; `many` cites those of what is said of a day.
pub mod Looked
pub mod Checked
pub mod Near
pub mod Held
pub mod Exact
pub mod Said
pub mod Signs
pub mod Signed
