mod Types
pub mod TableLaws
