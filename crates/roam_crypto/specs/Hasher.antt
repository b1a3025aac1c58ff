-- The state that a hasher keeps of a message which it is given piece by piece.
use Rattle.std.specs.Prelude.{◌≡◌, ℕ, ◌-◌, ◌%◌, ◌^◌, List, length, drop, replicate}
use Rattle.md5.specs.Md5.{IsAbsorbed}
use Rattle.roam_crypto.specs.declared.hasher.Hasher.{Hasher}

-- a state and a buffer have taken a message in: MD5's state after its whole blocks, the octets behind these,
-- and zeros behind them
pub record HasTaken (state buffer m : List ℕ) : Type 0 where
  pub absorbed : IsAbsorbed state buffer m
  pub zeros : drop (length m % 64) buffer ≡ replicate (64 - length m % 64) 0

-- a hasher holds a message: it has taken it in, and has its length modulo 2 ^ 64
pub record Holds (s : Hasher) (m : List ℕ) : Type 0 where
  pub total : s.total ≡ length m % 2 ^ 64
  pub taken : HasTaken s.state s.buffer m
