pub mod Crc
pub mod Places
pub mod Claims
