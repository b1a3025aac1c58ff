-- To which server a request goes that goes on with a conversation (ours).
use Rattle.std.specs.Prelude.{ℕ, ◌==◌, not, Bool, false, List, [], ◌++◌, Option, Some, None, option_and_then, is_some, if◌then◌else◌}
use Rattle.std.specs.List.{filter}
use Rattle.std.specs.Option.{option_or}
use Rattle.roam_wire.specs.Attributes.{first_value}
use Rattle.roam_wire.specs.Packet.{Packet}
use Rattle.roam_wire.specs.Reading.{packet_of}
use Rattle.roam_wire.specs.declared.attribute_type.TheConstants.{STATE}
use Rattle.roam_wire.specs.declared.code.TheConstants.{ACCESS_REQUEST}
use Rattle.roam_conf.specs.declared.place.Link.{Link}
use Rattle.roam_conf.specs.declared.place.Link.TheVariants as link
use Rattle.roam_pending.specs.declared.key.Requester.{Requester}
use Rattle.roam_pending.specs.declared.key.Requester.TheVariants as requester
use Rattle.roam_pending.specs.Conversations.{kept_link, last_round}
use Rattle.roam_pending.specs.PlainEntry.{PlainEntry, PlainRequest, same_link}
use Rattle.roam_realm.specs.RealmConfig.{RealmConfig}
use Rattle.roam_realm.specs.RealmState.{RealmState, Target, chosen_target, first_target}
use Rattle.roam_realm.specs.Rests.{after_choice, has_moment}
use Rattle.roam_realm.specs.declared.rest.Rest.{Rest}

-- the State with which a packet goes on with a conversation: the first one of an Access-Request (RFC 2865, section
-- 5.24)
abbrev pub state_in : Packet → Option (List ℕ)
state_in p = if p.code == ACCESS_REQUEST then first_value STATE p.attributes else None

-- that of a request, in a realm whose conversations stay where they are
abbrev pub asked_state : RealmConfig → PlainRequest → Option (List ℕ)
asked_state c q = if c.realm.conversations then state_in (packet_of q.octets) else None

-- the link that keeps a round
abbrev pub link_of_round : Option PlainEntry → Option Link
link_of_round found = option_and_then (λ e. kept_link e.standing) found

-- the link that keeps the last round of this State, of the same sender
abbrev pub round_link : Requester → List ℕ → List PlainEntry → Option Link
round_link (requester.Peer peer) state entries = link_of_round (last_round peer state entries)
round_link (requester.Home server) state entries = None

-- that of a request's State, if it asks for one
abbrev pub bound_link : RealmConfig → PlainRequest → List PlainEntry → Option Link
bound_link c q entries = option_and_then (λ state. round_link q.requester state entries) (asked_state c q)

-- two links lead to one end, each by its `out`
abbrev pub same_end : Link → Link → Bool
same_end (link.Auth a k) (link.Auth b j) = a == b
same_end (link.Acct a k) (link.Acct b j) = a == b
same_end (link.Coa a k) (link.Coa b j) = a == b
same_end _ _ = false

-- it, where it is among some links, and behind it those of them that lead to the same end
abbrev pub bound_links : Option Link → List Link → List Link
bound_links None links = []
bound_links (Some bound) links = filter (same_link bound) links ++ filter (same_end bound) links

-- the first of them with a free Identifier beside these entries, as a target, whether it stands back or not. (All
-- entries of the state count here for a round, that of the request's key and those past their deadline too.)
abbrev pub bound_target : RealmConfig → RealmState → List PlainEntry → PlainRequest → List Link → Option Target
bound_target c s entries q links = first_target c s.cursors entries (bound_links (bound_link c q s.entries) links)

-- those of some links that have no moment until which they rest, where a request asks for a round
abbrev pub untried : RealmConfig → List Rest → PlainRequest → List Link → List Link
untried c rests q links =
    if is_some (asked_state c q) then filter (λ l. not (has_moment c rests l)) links else []

-- ## Conversations that stay
-- In a realm with `conversations` an Access-Request with a State goes to that of its links which sent the Challenge
-- with that State which is held for the same peer, the last one, where this has a free Identifier, whether it stands
-- back or not; else to the first to the same server's `auth`, by another `out`, that has one; that leaves its rest as
-- it is. Where there is no such link it goes to the first that has no time until which it rests, in
-- the past or not, and has a free Identifier; where each has such a time, the choice is as for other requests. So a
-- request in the middle of a login doesn't try whether a server is back.
-- Source: RFC 2865 section 5.24; ours
-- Rules out: a login that changes its server; a probe with a State; the State of another peer
-- Stands in: `roam_realm` `Conversing.antt`: `new_target`, `bound_target`, `rests_for`; `Book::request`
--
-- the target of a new request among its links
abbrev pub new_target :
    RealmConfig → ℕ → RealmState → List PlainEntry → PlainRequest → List Link → Option Target
new_target c now s entries q links =
    option_or (bound_target c s entries q links)
    (option_or (first_target c s.cursors entries (untried c s.rests q links))
    (chosen_target c now s.rests s.cursors entries links))

-- the rests once a link was chosen, by whether a conversation bound the request to it
abbrev pub rests_chosen : RealmConfig → ℕ → List Rest → Bool → Link → List Rest
rests_chosen c now rests bound l = if bound then rests else after_choice c now rests l

-- the same of a target, if there is one
abbrev pub rests_by : RealmConfig → ℕ → List Rest → Bool → Option Target → List Rest
rests_by c now rests bound None = rests
rests_by c now rests bound (Some target) = rests_chosen c now rests bound target.link

abbrev pub rests_for : RealmConfig → ℕ → List Rest → Option Target → Option Target → List Rest
rests_for c now rests bound target = rests_by c now rests (is_some bound) target
