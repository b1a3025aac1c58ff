-- Words of private functions and of invariants: no contract of a public call names one.
pub mod Arranged
pub mod Added
