pub mod Sets
pub mod Calls
pub mod Answers
pub mod History
pub mod UpAndDown
pub mod ThereAndBack
pub mod Refusals
pub mod WrongLinks
