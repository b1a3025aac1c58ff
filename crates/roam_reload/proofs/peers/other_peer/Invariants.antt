use Rattle.std.proofs.Common.{◌≡◌, ◌<◌, ℕ, map}
use Rattle.roam_conf.specs.Parts.{shown_peer}
use Rattle.roam_reload.specs.Reload.{IsKeptAt}
use Rattle.roam_reload.proofs.peers.other_peer.Given as goal

-- the peers so far are kept
abbrev pub invariant-loop-i : goal.invariant-loop-i
invariant-loop-i l =
    (l.old ≡ l.fn.old) × (l.new ≡ l.fn.new)
    × ((peer : ℕ) → peer < l.i → IsKeptAt (map shown_peer l.fn.old) (map shown_peer l.fn.new) peer)
