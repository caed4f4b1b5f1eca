pub mod Register
pub mod Remainder
pub mod Detect
pub mod Octets
pub mod Guarded
