pub mod Admitted
pub mod FreshBroker
