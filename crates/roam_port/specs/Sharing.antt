-- The number of packets that may wait for one port (ours).
use Rattle.std.specs.Prelude.{ℕ, ◌/◌, max, min}

-- ## Share of a port
-- How many packets may wait for it: 65,536 places are dealt out evenly to the ports, but to none fewer than 32 or
-- more than 256. It is had at the opening, so that putting and sending take no memory.
-- Source: ours
-- Stands in: `roam_port` `Sharing.antt`: `share_of`; `share_of`, `Outbox::new`, `Outbox::add_ports`
--
-- of so many ports: 65,536 places are dealt out evenly, but to none fewer than 32 or more than 256
abbrev pub share_of : ℕ → ℕ
share_of ports = max 32 (min 256 (65536 / max ports 1))
