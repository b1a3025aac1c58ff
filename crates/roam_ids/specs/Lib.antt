pub mod IdSlot
pub mod LaneState
pub mod Laws
pub mod Making
pub mod NextIdentifier
pub mod Standing
pub mod Taking
pub mod Marks
