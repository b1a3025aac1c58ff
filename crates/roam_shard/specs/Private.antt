-- Words of private functions and of invariants: no contract of a public call names one.
pub mod Rooms
pub mod Lost
pub mod Items
pub mod Nothing
