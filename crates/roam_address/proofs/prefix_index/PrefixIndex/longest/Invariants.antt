use Rattle.std.proofs.Common.{◌≡◌, ◌<◌, ◌-◌, ◌≤◌, ℕ, None}
use Rattle.roam_address.specs.Addresses.{ip_of}
use Rattle.roam_address.specs.Bits.{width, leading}
use Rattle.roam_address.specs.Stands.{place_of}
use Rattle.roam_address.proofs.prefix_index.PrefixIndex.longest.Given as goal

-- of no greater length is there a key
abbrev pub invariant-loop-behind : goal.invariant-loop-behind
invariant-loop-behind g l =
    (k : ℕ) → k < l.behind → k ≤ width (ip_of l.fn.address) →
    place_of l.fn.self (leading (width (ip_of l.fn.address) - k) (ip_of l.fn.address)) ≡ None
