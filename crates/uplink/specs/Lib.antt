pub mod Subflows
