pub mod StateLaws
pub mod RowLaws
