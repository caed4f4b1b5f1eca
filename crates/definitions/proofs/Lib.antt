pub mod Outcome
pub mod Runs
pub mod Tables
pub mod Frames
pub mod Claims
pub mod Refusals
pub mod OrderRefusals
pub mod WrongReaders
pub mod WrongBuilders
pub mod Counting
pub mod Order
pub mod WrongOrders
mod Fixed
mod Classes
mod Cases
mod WrongAnswerers
