-- The neighbours of a number in each of its groups, beside one another (ours).
use Rattle.std.specs.Prelude.{ℕ, ◌==◌, Bool, true, false, Option, Some, None, if◌then◌else◌}
use Rattle.roam_sessions.specs.declared.links.Facet.{Facet}
use Rattle.roam_sessions.specs.declared.links.Facet.TheVariants as facet
use Rattle.roam_sessions.specs.declared.links.Link.{Link}
use Rattle.roam_sessions.specs.declared.links.Links.{Links}
use Rattle.roam_sessions.specs.declared.neighbours.Beside.{Beside}

-- what is written where there is no number: 2^64 - 1
unfoldable pub no_number : ℕ
no_number = 18446744073709551615

-- the number that is written so, if one is
abbrev pub written : ℕ → Option ℕ
written n = if n == no_number then None else Some n

abbrev pub shown_link : Link → Beside
shown_link l = record { older = written l.older; newer = written l.newer }

-- the neighbours in the group of a facet, and with others there
abbrev pub link_of : Facet → Links → Link
link_of facet.Peer l = l.peer
link_of facet.Address l = l.address
link_of facet.Identifier l = l.identifier
link_of facet.Both l = l.both
link_of facet.Id l = l.id
link_of facet.Whole l = l.whole

abbrev pub with_link : Facet → Link → Links → Links
with_link facet.Peer x l = record l { peer = x }
with_link facet.Address x l = record l { address = x }
with_link facet.Identifier x l = record l { identifier = x }
with_link facet.Both x l = record l { both = x }
with_link facet.Id x l = record l { id = x }
with_link facet.Whole x l = record l { whole = x }

abbrev pub beside_of : Facet → Links → Beside
beside_of facet l = shown_link (link_of facet l)

-- no neighbours in any group
abbrev pub no_links : Links
no_links = record {
  peer = record { older = 18446744073709551615; newer = 18446744073709551615 };
  address = record { older = 18446744073709551615; newer = 18446744073709551615 };
  identifier = record { older = 18446744073709551615; newer = 18446744073709551615 };
  both = record { older = 18446744073709551615; newer = 18446744073709551615 };
  id = record { older = 18446744073709551615; newer = 18446744073709551615 };
  whole = record { older = 18446744073709551615; newer = 18446744073709551615 };
}

-- no neighbours
abbrev pub no_beside : Beside
no_beside = record { older = None; newer = None }

-- two facets are one
abbrev pub is_facet : Facet → Facet → Bool
is_facet facet.Peer facet.Peer = true
is_facet facet.Address facet.Address = true
is_facet facet.Identifier facet.Identifier = true
is_facet facet.Both facet.Both = true
is_facet facet.Id facet.Id = true
is_facet facet.Whole facet.Whole = true
is_facet _ _ = false
