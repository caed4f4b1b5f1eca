pub mod Joined
pub mod Joining
pub mod Claims
pub mod Merging
pub mod WrongMerges
