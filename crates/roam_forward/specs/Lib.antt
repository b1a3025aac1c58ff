pub mod Removal
pub mod Without
pub mod WithoutLaws
pub mod Forwarded
pub mod ForwardedLaws
pub mod CarriedLaws
pub mod Rewriting
pub mod Shaped
pub mod ShapedLaws
-- Words that no contract of a public call names: those of private functions and of invariants.
pub mod Private
