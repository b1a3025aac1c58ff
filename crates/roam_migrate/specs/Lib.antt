-- A realm that goes on under another part of a configuration, in the order in which it is read.
pub mod Reload
pub mod Losses
-- The words of the contracts of public calls beside that.
pub mod Carrying
-- Words that no contract of a public call names: those of private functions and of invariants.
pub mod Private
