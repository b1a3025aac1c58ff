-- The specification of the proxy of one realm, in the order in which it is read.
pub mod LeastFirst
pub mod Silence
pub mod Balance
-- The words of the contracts of public calls beside that.
pub mod BookView
pub mod LostTicks
pub mod RealmTurn
pub mod Replacing
-- Words that no contract of a public call names: those of private functions and of invariants.
pub mod Private
