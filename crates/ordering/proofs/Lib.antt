mod OrderLaws
pub mod MarkLaws
