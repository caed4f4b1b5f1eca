pub mod Formats
pub mod Claims
