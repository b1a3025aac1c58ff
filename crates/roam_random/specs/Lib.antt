pub mod Keyed
pub mod RandomWords
pub mod Laws
-- Words that no contract of a public call names: those of private functions and of invariants.
pub mod Private
