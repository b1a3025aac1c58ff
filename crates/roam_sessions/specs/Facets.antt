-- The meaning of the groups of a table's sessions (ours).
use Rattle.std.specs.Prelude.{◌≡◌, ℕ, ◌+◌, ◌<◌, ◌≤◌, Bool, true, false, List, Option, Some, None, option_and_then, option_map}
use Rattle.std.specs.declared.vec.Vec.{Vec}
use Rattle.roam_wire.specs.Numbered.{PutsAt, tickets_end}
use Rattle.roam_sessions.specs.Sessions.{Asked, Session}
use Rattle.indexmap.specs.IndexMap.{spare}
use Rattle.roam_sessions.specs.Maps.{HasRoom, ends_at, ends_by, groups_of}
use Rattle.roam_sessions.specs.Private.Buckets.{id_text, in_bucket, whole_text}
use Rattle.roam_sessions.specs.Private.Groups.{IsGrouped, PlainGroups}
use Rattle.roam_sessions.specs.Private.Row.{row_under}
use Rattle.roam_sessions.specs.declared.asked.Mask.{Mask}
use Rattle.roam_sessions.specs.declared.facets.Facets.{Facets}
use Rattle.roam_sessions.specs.declared.session_rows.FacetRows.{FacetRows}
use Rattle.roam_sessions.specs.declared.ends.Ends.{Ends}
use Rattle.roam_sessions.specs.declared.buckets.Buckets.{Buckets}
use Rattle.roam_sessions.specs.declared.links.Facet.{Facet}
use Rattle.roam_sessions.specs.declared.links.Facet.TheVariants as facet
use Rattle.roam_sessions.specs.declared.neighbours.Beside.{Beside}

-- the row of each ticket's session by some of its parts
abbrev pub rows_under : Mask → (ℕ → Option Session) → ℕ → Option (List ℕ)
rows_under mask F t = option_and_then (row_under mask) (F t)

-- the bucket of each ticket's session by its peer and its id, and by all that it is
abbrev pub id_buckets : Buckets → (ℕ → Option Session) → ℕ → Option (List ℕ)
id_buckets b F t = option_and_then (id_text b) (F t)

abbrev pub whole_buckets : Buckets → (ℕ → Option Session) → ℕ → Option (List ℕ)
whole_buckets b F t = option_and_then (whole_text b) (F t)

-- by the peer alone, or by some names of the access server, and by the id or not
abbrev pub masked : Bool → Bool → Bool → Bool → Mask
masked address identifier ipv6 id =
    record { address = address; identifier = identifier; ipv6 = ipv6; id = id }

-- groups by their ends and the neighbours of each number
abbrev pub grouped : (List ℕ → Option Ends) → (ℕ → Option Beside) → PlainGroups
grouped ends beside = record { ends = ends; beside = beside }

-- the sessions of these tickets, with these neighbours, are in their groups
pub record AreFaceted {A : Type 0} (F : ℕ → Option Session) (f : Facets A) (b : Facet → ℕ → Option Beside) : Type 0 where
  pub by_peer : IsGrouped (rows_under (masked false false false false) F) (grouped (ends_at f.by_peer) (b facet.Peer))
  pub by_address : IsGrouped (rows_under (masked true false false false) F) (grouped (ends_at f.by_address) (b facet.Address))
  pub by_identifier : IsGrouped (rows_under (masked false true false false) F) (grouped (ends_at f.by_identifier) (b facet.Identifier))
  pub by_both : IsGrouped (rows_under (masked true true false false) F) (grouped (ends_at f.by_both) (b facet.Both))
  pub by_ipv6 : IsGrouped (rows_under (masked false false true false) F) (groups_of f.by_ipv6)
  pub by_address_ipv6 : IsGrouped (rows_under (masked true false true false) F) (groups_of f.by_address_ipv6)
  pub by_identifier_ipv6 : IsGrouped (rows_under (masked false true true false) F) (groups_of f.by_identifier_ipv6)
  pub by_all : IsGrouped (rows_under (masked true true true false) F) (groups_of f.by_all)
  pub by_id : IsGrouped (id_buckets f.buckets F) (grouped (in_bucket (ends_by f.by_id)) (b facet.Id))
  pub by_whole : IsGrouped (whole_buckets f.buckets F) (grouped (in_bucket (ends_by f.by_whole)) (b facet.Whole))

-- the octets are the row of a session by some of its parts
abbrev pub HasRow : {A : Type 0} → Mask → Session → Option (Vec ℕ A) → Type 0
HasRow mask s row = option_map (λ r. r.items) row ≡ row_under mask s

pub record HasFacetRows {A : Type 0} (s : Session) (rows : FacetRows A) : Type 0 where
  pub by_peer : HasRow (masked false false false false) s rows.by_peer
  pub by_address : HasRow (masked true false false false) s rows.by_address
  pub by_identifier : HasRow (masked false true false false) s rows.by_identifier
  pub by_both : HasRow (masked true true false false) s rows.by_both
  pub by_ipv6 : HasRow (masked false false true false) s rows.by_ipv6
  pub by_address_ipv6 : HasRow (masked true false true false) s rows.by_address_ipv6
  pub by_identifier_ipv6 : HasRow (masked false true true false) s rows.by_identifier_ipv6
  pub by_all : HasRow (masked true true true false) s rows.by_all

-- a ticket behind all others has this session now
pub record ComesIn (F G : ℕ → Option Session) (t : ℕ) (s : Session) : Type 0 where
  pub puts : PutsAt F G t (Some s)
  pub free : (u : ℕ) → t ≤ u → F u ≡ None
  pub within : t + 1 < tickets_end

-- there is room for so many sessions more
pub record FacetsHaveRoom {A : Type 0} (n : ℕ) (f : Facets A) : Type 0 where
  pub by_peer : n ≤ spare f.by_peer
  pub by_address : n ≤ spare f.by_address
  pub by_identifier : n ≤ spare f.by_identifier
  pub by_both : n ≤ spare f.by_both
  pub by_ipv6 : HasRoom n f.by_ipv6
  pub by_address_ipv6 : HasRoom n f.by_address_ipv6
  pub by_identifier_ipv6 : HasRoom n f.by_identifier_ipv6
  pub by_all : HasRoom n f.by_all
  pub by_id : n ≤ spare f.by_id
  pub by_whole : n ≤ spare f.by_whole

-- the ends of the groups in which sessions are found by the names that are asked for
abbrev pub facet_by :
    {A : Type 0} → Option (List ℕ) → Option (List ℕ) → Option (List ℕ) → Facets A → List ℕ → Option Ends
facet_by None None None f = ends_at f.by_peer
facet_by (Some address) None None f = ends_at f.by_address
facet_by None (Some identifier) None f = ends_at f.by_identifier
facet_by (Some address) (Some identifier) None f = ends_at f.by_both
facet_by None None (Some ipv6) f = ends_at f.by_ipv6.ends
facet_by (Some address) None (Some ipv6) f = ends_at f.by_address_ipv6.ends
facet_by None (Some identifier) (Some ipv6) f = ends_at f.by_identifier_ipv6.ends
facet_by (Some address) (Some identifier) (Some ipv6) f = ends_at f.by_all.ends

abbrev pub facet_of : {A : Type 0} → Asked → Facets A → List ℕ → Option Ends
facet_of q f = facet_by q.nas.address q.nas.identifier q.nas.ipv6 f
