pub mod Sheets
pub mod Claims
pub mod WrongSheets
