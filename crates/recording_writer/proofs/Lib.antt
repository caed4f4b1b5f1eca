pub mod CopyLaws
pub mod WriteLaws
