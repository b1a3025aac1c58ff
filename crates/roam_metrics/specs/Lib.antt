pub mod About
pub mod Labels
pub mod Lines
pub mod Pages
pub mod Servers
pub mod Spans
pub mod Tables
