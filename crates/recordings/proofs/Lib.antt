pub mod Scan
pub mod Claims
pub mod Carried
pub mod Returning
pub mod Trips
pub mod Conversions
pub mod Apart
pub mod Demand3
mod ThreeBits
pub mod ViewCalls
pub mod Viewer
pub mod Report
mod WrongReaders
mod WrongConverters
mod WrongViewers
mod WrongReports
