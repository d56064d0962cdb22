pub mod Lists
pub mod Times
