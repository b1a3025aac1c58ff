pub mod Begins
pub mod Served
pub mod Ways
