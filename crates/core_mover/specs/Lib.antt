pub mod Carriable
