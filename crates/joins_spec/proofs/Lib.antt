pub mod Joining
pub mod Slots
pub mod Merges
pub mod Agreement
mod WrongMerges
