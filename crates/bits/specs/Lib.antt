pub mod Bits
pub mod Claims
