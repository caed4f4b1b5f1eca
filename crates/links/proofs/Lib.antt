pub mod SetLaws
pub mod CallLaws
pub mod History
pub mod ThereAndBack
pub mod Refusals
mod WrongLinks
