-- The attributes that have a salted string (RFC 2868, section 3.5; RFC 2548, section 2.4; of other vendors ours).
use Rattle.std.specs.Prelude.{ℕ, ◌==◌, ◌&&◌, Bool, List, Option}
use Rattle.std.specs.List.{find}
use Rattle.std.specs.Option.{option_eq, option_map}
use Rattle.roam_crypto.specs.declared.salted_kinds.Salting.{Salting}
use Rattle.roam_crypto.specs.declared.salted_kinds.TheConstants.{SALTED_KINDS}

-- an entry is of this kind: by its vendor, none for an attribute of the packet, and by its Type
abbrev pub is_of : Option ℕ → ℕ → Option ℕ × ℕ × Salting → Bool
is_of vendor kind entry = option_eq (λ a b. a == b) entry.0 vendor && entry.1 == kind

-- how a value of a kind begins, by a list
abbrev pub salting_in : List (Option ℕ × ℕ × Salting) → Option ℕ → ℕ → Option Salting
salting_in list vendor kind = option_map (λ entry. entry.2) (find (is_of vendor kind) list)

-- ## Kinds with a salted string
-- One list says which attributes have a salted string, and whether a tag stands before the salt: Tunnel-Password, and
-- types of the vendors in `docs/INTEROPERABILITY.md`.
-- Source: RFC 2868 section 3.5, RFC 2548 section 2.4; of other vendors ours, from FreeRADIUS' dictionaries
-- Rules out: a kind that is hidden anew in one place and overlooked in another
-- Stands in: `roam_crypto` `SaltedKinds.antt`: `salting_of`; `salted_kinds.rt`: `SALTED_KINDS`
--
-- how a value of a kind begins, where it has a salted string
unfoldable pub salting_of : Option ℕ → ℕ → Option Salting
salting_of vendor kind = salting_in SALTED_KINDS vendor kind
