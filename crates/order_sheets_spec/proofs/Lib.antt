pub mod Numbers
pub mod Fields
pub mod Form
pub mod FormRefusals
mod LeadingZeros
mod Refusals
mod Reading
mod Ordering
mod Agreement
mod WrongSheets
