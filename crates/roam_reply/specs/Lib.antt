pub mod ReplyCheck
pub mod Returned
pub mod ReturnedLaws
pub mod Shown
pub mod CarriedLaws
pub mod PassingLaws
pub mod Nak
pub mod NakLaws
-- Words that no contract of a public call names: those of private functions and of invariants.
pub mod Private
