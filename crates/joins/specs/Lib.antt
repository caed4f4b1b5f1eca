pub mod Answers
pub mod Flat
