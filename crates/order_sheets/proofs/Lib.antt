mod NumberLaws
mod FieldLaws
mod HeadLaws
mod LineLaws
mod TestLaws
mod WriteLaws
mod CallLaws
