pub mod Counting
pub mod Packets
pub mod Sending
