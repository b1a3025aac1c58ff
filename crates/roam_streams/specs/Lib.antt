pub mod Cutting
pub mod Faults
pub mod Streams
pub mod Waits
pub mod Requests
pub mod Dialing
pub mod Laws
