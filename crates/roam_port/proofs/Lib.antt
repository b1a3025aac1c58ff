pub mod BalanceLemmas
pub mod FateLemmas
pub mod ListedLemmas
pub mod PortFateLemmas
pub mod QueueLemmas
pub mod SocketLemmas
