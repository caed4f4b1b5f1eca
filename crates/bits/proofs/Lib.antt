pub mod BitLaws
pub mod Tests
mod Masks
