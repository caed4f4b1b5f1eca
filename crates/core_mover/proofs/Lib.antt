pub mod PackLaws
pub mod MoveLaws
pub mod CoreLaws
