use Rattle.std.proofs.Common.{refl, arith}
use Rattle.roam_sessions.proofs.GrownFacetLemmas.{facets-stay}
use Rattle.roam_sessions.proofs.facets.Facets.reserve.Goals as goal

pub returns-in_err-reserve_ends-clause-same : goal.returns-in_err-reserve_ends-clause-same
returns-in_err-reserve_ends-clause-same g c = λ F b are.
    facets-stay c.args.self.now _ c.reserve_ends.ensures.same refl refl refl refl refl refl refl refl refl refl F b are

pub returns-in_err-reserve_ends-clause-room : goal.returns-in_err-reserve_ends-clause-room
returns-in_err-reserve_ends-clause-room g c = λ n room. record {
  by_peer = omega (arith, room.by_peer, c.reserve_ends.ensures.room);
  by_address = room.by_address;
  by_identifier = room.by_identifier;
  by_both = room.by_both;
  by_id = room.by_id;
  by_whole = room.by_whole;
  by_ipv6 = room.by_ipv6;
  by_address_ipv6 = room.by_address_ipv6;
  by_identifier_ipv6 = room.by_identifier_ipv6;
  by_all = room.by_all;
}

pub returns-in_err-reserve_ends-2-clause-same : goal.returns-in_err-reserve_ends-2-clause-same
returns-in_err-reserve_ends-2-clause-same g c = λ F b are.
    facets-stay c.args.self.now _ c.reserve_ends.ensures.same c.reserve_ends-2.ensures.same refl refl refl refl refl refl refl refl refl F b are

pub returns-in_err-reserve_ends-2-clause-room : goal.returns-in_err-reserve_ends-2-clause-room
returns-in_err-reserve_ends-2-clause-room g c = λ n room. record {
  by_peer = omega (arith, room.by_peer, c.reserve_ends.ensures.room);
  by_address = omega (arith, room.by_address, c.reserve_ends-2.ensures.room);
  by_identifier = room.by_identifier;
  by_both = room.by_both;
  by_id = room.by_id;
  by_whole = room.by_whole;
  by_ipv6 = room.by_ipv6;
  by_address_ipv6 = room.by_address_ipv6;
  by_identifier_ipv6 = room.by_identifier_ipv6;
  by_all = room.by_all;
}

pub returns-in_err-reserve_ends-3-clause-same : goal.returns-in_err-reserve_ends-3-clause-same
returns-in_err-reserve_ends-3-clause-same g c = λ F b are.
    facets-stay c.args.self.now _ c.reserve_ends.ensures.same c.reserve_ends-2.ensures.same c.reserve_ends-3.ensures.same refl refl refl refl refl refl refl refl F b are

pub returns-in_err-reserve_ends-3-clause-room : goal.returns-in_err-reserve_ends-3-clause-room
returns-in_err-reserve_ends-3-clause-room g c = λ n room. record {
  by_peer = omega (arith, room.by_peer, c.reserve_ends.ensures.room);
  by_address = omega (arith, room.by_address, c.reserve_ends-2.ensures.room);
  by_identifier = omega (arith, room.by_identifier, c.reserve_ends-3.ensures.room);
  by_both = room.by_both;
  by_id = room.by_id;
  by_whole = room.by_whole;
  by_ipv6 = room.by_ipv6;
  by_address_ipv6 = room.by_address_ipv6;
  by_identifier_ipv6 = room.by_identifier_ipv6;
  by_all = room.by_all;
}

pub returns-in_err-reserve_ends-4-clause-same : goal.returns-in_err-reserve_ends-4-clause-same
returns-in_err-reserve_ends-4-clause-same g c = λ F b are.
    facets-stay c.args.self.now _ c.reserve_ends.ensures.same c.reserve_ends-2.ensures.same c.reserve_ends-3.ensures.same c.reserve_ends-4.ensures.same refl refl refl refl refl refl refl F b are

pub returns-in_err-reserve_ends-4-clause-room : goal.returns-in_err-reserve_ends-4-clause-room
returns-in_err-reserve_ends-4-clause-room g c = λ n room. record {
  by_peer = omega (arith, room.by_peer, c.reserve_ends.ensures.room);
  by_address = omega (arith, room.by_address, c.reserve_ends-2.ensures.room);
  by_identifier = omega (arith, room.by_identifier, c.reserve_ends-3.ensures.room);
  by_both = omega (arith, room.by_both, c.reserve_ends-4.ensures.room);
  by_id = room.by_id;
  by_whole = room.by_whole;
  by_ipv6 = room.by_ipv6;
  by_address_ipv6 = room.by_address_ipv6;
  by_identifier_ipv6 = room.by_identifier_ipv6;
  by_all = room.by_all;
}

pub returns-in_err-reserve_buckets-clause-same : goal.returns-in_err-reserve_buckets-clause-same
returns-in_err-reserve_buckets-clause-same g c = λ F b are.
    facets-stay c.args.self.now _ c.reserve_ends.ensures.same c.reserve_ends-2.ensures.same c.reserve_ends-3.ensures.same c.reserve_ends-4.ensures.same c.reserve_buckets.ensures.same refl refl refl refl refl refl F b are

pub returns-in_err-reserve_buckets-clause-room : goal.returns-in_err-reserve_buckets-clause-room
returns-in_err-reserve_buckets-clause-room g c = λ n room. record {
  by_peer = omega (arith, room.by_peer, c.reserve_ends.ensures.room);
  by_address = omega (arith, room.by_address, c.reserve_ends-2.ensures.room);
  by_identifier = omega (arith, room.by_identifier, c.reserve_ends-3.ensures.room);
  by_both = omega (arith, room.by_both, c.reserve_ends-4.ensures.room);
  by_id = omega (arith, room.by_id, c.reserve_buckets.ensures.room);
  by_whole = room.by_whole;
  by_ipv6 = room.by_ipv6;
  by_address_ipv6 = room.by_address_ipv6;
  by_identifier_ipv6 = room.by_identifier_ipv6;
  by_all = room.by_all;
}

pub returns-in_err-reserve_buckets-2-clause-same : goal.returns-in_err-reserve_buckets-2-clause-same
returns-in_err-reserve_buckets-2-clause-same g c = λ F b are.
    facets-stay c.args.self.now _ c.reserve_ends.ensures.same c.reserve_ends-2.ensures.same c.reserve_ends-3.ensures.same c.reserve_ends-4.ensures.same c.reserve_buckets.ensures.same c.reserve_buckets-2.ensures.same refl refl refl refl refl F b are

pub returns-in_err-reserve_buckets-2-clause-room : goal.returns-in_err-reserve_buckets-2-clause-room
returns-in_err-reserve_buckets-2-clause-room g c = λ n room. record {
  by_peer = omega (arith, room.by_peer, c.reserve_ends.ensures.room);
  by_address = omega (arith, room.by_address, c.reserve_ends-2.ensures.room);
  by_identifier = omega (arith, room.by_identifier, c.reserve_ends-3.ensures.room);
  by_both = omega (arith, room.by_both, c.reserve_ends-4.ensures.room);
  by_id = omega (arith, room.by_id, c.reserve_buckets.ensures.room);
  by_whole = omega (arith, room.by_whole, c.reserve_buckets-2.ensures.room);
  by_ipv6 = room.by_ipv6;
  by_address_ipv6 = room.by_address_ipv6;
  by_identifier_ipv6 = room.by_identifier_ipv6;
  by_all = room.by_all;
}

pub returns-in_err-reserve-clause-same : goal.returns-in_err-reserve-clause-same
returns-in_err-reserve-clause-same g c = λ F b are.
    facets-stay c.args.self.now _ c.reserve_ends.ensures.same c.reserve_ends-2.ensures.same c.reserve_ends-3.ensures.same c.reserve_ends-4.ensures.same c.reserve_buckets.ensures.same c.reserve_buckets-2.ensures.same c.reserve.ensures.same refl refl refl refl F b are

pub returns-in_err-reserve-clause-room : goal.returns-in_err-reserve-clause-room
returns-in_err-reserve-clause-room g c = λ n room. record {
  by_peer = omega (arith, room.by_peer, c.reserve_ends.ensures.room);
  by_address = omega (arith, room.by_address, c.reserve_ends-2.ensures.room);
  by_identifier = omega (arith, room.by_identifier, c.reserve_ends-3.ensures.room);
  by_both = omega (arith, room.by_both, c.reserve_ends-4.ensures.room);
  by_id = omega (arith, room.by_id, c.reserve_buckets.ensures.room);
  by_whole = omega (arith, room.by_whole, c.reserve_buckets-2.ensures.room);
  by_ipv6 = c.reserve.ensures.room n room.by_ipv6;
  by_address_ipv6 = room.by_address_ipv6;
  by_identifier_ipv6 = room.by_identifier_ipv6;
  by_all = room.by_all;
}

pub returns-in_err-reserve-2-clause-same : goal.returns-in_err-reserve-2-clause-same
returns-in_err-reserve-2-clause-same g c = λ F b are.
    facets-stay c.args.self.now _ c.reserve_ends.ensures.same c.reserve_ends-2.ensures.same c.reserve_ends-3.ensures.same c.reserve_ends-4.ensures.same c.reserve_buckets.ensures.same c.reserve_buckets-2.ensures.same c.reserve.ensures.same c.reserve-2.ensures.same refl refl refl F b are

pub returns-in_err-reserve-2-clause-room : goal.returns-in_err-reserve-2-clause-room
returns-in_err-reserve-2-clause-room g c = λ n room. record {
  by_peer = omega (arith, room.by_peer, c.reserve_ends.ensures.room);
  by_address = omega (arith, room.by_address, c.reserve_ends-2.ensures.room);
  by_identifier = omega (arith, room.by_identifier, c.reserve_ends-3.ensures.room);
  by_both = omega (arith, room.by_both, c.reserve_ends-4.ensures.room);
  by_id = omega (arith, room.by_id, c.reserve_buckets.ensures.room);
  by_whole = omega (arith, room.by_whole, c.reserve_buckets-2.ensures.room);
  by_ipv6 = c.reserve.ensures.room n room.by_ipv6;
  by_address_ipv6 = c.reserve-2.ensures.room n room.by_address_ipv6;
  by_identifier_ipv6 = room.by_identifier_ipv6;
  by_all = room.by_all;
}

pub returns-in_err-reserve-3-clause-same : goal.returns-in_err-reserve-3-clause-same
returns-in_err-reserve-3-clause-same g c = λ F b are.
    facets-stay c.args.self.now _ c.reserve_ends.ensures.same c.reserve_ends-2.ensures.same c.reserve_ends-3.ensures.same c.reserve_ends-4.ensures.same c.reserve_buckets.ensures.same c.reserve_buckets-2.ensures.same c.reserve.ensures.same c.reserve-2.ensures.same c.reserve-3.ensures.same refl refl F b are

pub returns-in_err-reserve-3-clause-room : goal.returns-in_err-reserve-3-clause-room
returns-in_err-reserve-3-clause-room g c = λ n room. record {
  by_peer = omega (arith, room.by_peer, c.reserve_ends.ensures.room);
  by_address = omega (arith, room.by_address, c.reserve_ends-2.ensures.room);
  by_identifier = omega (arith, room.by_identifier, c.reserve_ends-3.ensures.room);
  by_both = omega (arith, room.by_both, c.reserve_ends-4.ensures.room);
  by_id = omega (arith, room.by_id, c.reserve_buckets.ensures.room);
  by_whole = omega (arith, room.by_whole, c.reserve_buckets-2.ensures.room);
  by_ipv6 = c.reserve.ensures.room n room.by_ipv6;
  by_address_ipv6 = c.reserve-2.ensures.room n room.by_address_ipv6;
  by_identifier_ipv6 = c.reserve-3.ensures.room n room.by_identifier_ipv6;
  by_all = room.by_all;
}

pub returns-clause-same : goal.returns-clause-same
returns-clause-same g c = λ F b are.
    facets-stay c.args.self.now _ c.reserve_ends.ensures.same c.reserve_ends-2.ensures.same c.reserve_ends-3.ensures.same c.reserve_ends-4.ensures.same c.reserve_buckets.ensures.same c.reserve_buckets-2.ensures.same c.reserve.ensures.same c.reserve-2.ensures.same c.reserve-3.ensures.same c.reserve-4.ensures.same refl F b are

pub returns-clause-room : goal.returns-clause-room
returns-clause-room g c = λ n room. record {
  by_peer = omega (arith, room.by_peer, c.reserve_ends.ensures.room);
  by_address = omega (arith, room.by_address, c.reserve_ends-2.ensures.room);
  by_identifier = omega (arith, room.by_identifier, c.reserve_ends-3.ensures.room);
  by_both = omega (arith, room.by_both, c.reserve_ends-4.ensures.room);
  by_id = omega (arith, room.by_id, c.reserve_buckets.ensures.room);
  by_whole = omega (arith, room.by_whole, c.reserve_buckets-2.ensures.room);
  by_ipv6 = c.reserve.ensures.room n room.by_ipv6;
  by_address_ipv6 = c.reserve-2.ensures.room n room.by_address_ipv6;
  by_identifier_ipv6 = c.reserve-3.ensures.room n room.by_identifier_ipv6;
  by_all = c.reserve-4.ensures.room n room.by_all;
}
