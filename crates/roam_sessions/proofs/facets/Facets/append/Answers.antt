use Rattle.std.proofs.Common.{◌≡◌, ℕ, true, false, Some, refl, ap, ◌∙◌, arith}
use Rattle.roam_sessions.specs.Facets.{id_buckets, masked, rows_under, whole_buckets}
use Rattle.roam_sessions.specs.Kept.{kept_session}
use Rattle.roam_sessions.specs.Maps.{ends_at, ends_by, linked_at, links_at, session_of}
use Rattle.roam_sessions.specs.Private.Buckets.{bucket_text, id_bucket, id_text, in_bucket, whole_bucket, whole_text}
use Rattle.roam_sessions.specs.Private.Row.{row_under}
use Rattle.roam_sessions.specs.declared.links.Facet.TheVariants as facet
use Rattle.roam_sessions.proofs.FacetLemmas.{comes-by}
use Rattle.roam_sessions.proofs.LinkedLemmas.{joined-through}
use Rattle.roam_sessions.proofs.StayLemmas.{all-stay, links-put, put-before}
use Rattle.roam_sessions.proofs.facets.Facets.append.Goals as goal

pub returns-clause-faceted : goal.returns-clause-faceted
returns-clause-faceted g c = λ F G are comes.
    let t = c.args.ticket in
    let f = c.args.self.now in
    let b = f.buckets in
    let s = kept_session c.args.new.session in
    let rows = c.args.new.of_peer_are in
    let in_id : c.places-places.result.id ≡ id_bucket b s = c.places-places.ensures.id ∙ ap (id_bucket b) c.lend.ensures in
    let in_whole : c.places-places.result.whole ≡ whole_bucket b s =
    c.places-places.ensures.whole ∙ ap (whole_bucket b) c.lend.ensures in
    record {
      by_peer = joined-through (rows_under (masked false false false false) F) (rows_under (masked false false false false) G)
          (ends_at f.by_peer) (ends_at c.join.new.ends) t _ (linked_at facet.Peer c.args.map.now)
          (linked_at facet.Peer c.put.new.map) (linked_at facet.Peer c.put.new.map)
          (linked_at facet.Peer c.join.new.links) (linked_at facet.Peer c.enter_bucket-2.new.links) are.by_peer
          (comes-by (row_under (masked false false false false)) F G t s _ rows.by_peer comes) (links-put facet.Peer (links_at c.args.map.now) (links_at c.put.new.map) t c.put.ensures.links)
          (λ u. refl)
          (λ grouped begun. c.join.ensures.grouped (rows_under (masked false false false false) F) (rows_under (masked false false false false) G) grouped begun
          (comes-by (row_under (masked false false false false)) F G t s _ rows.by_peer comes))
          (λ u. c.enter_bucket-2.ensures.others facet.Peer refl u ∙ c.enter_bucket.ensures.others facet.Peer refl u ∙ c.join-4.ensures.others facet.Peer refl u ∙ c.join-3.ensures.others facet.Peer refl u ∙ c.join-2.ensures.others facet.Peer refl u);
      by_address = joined-through (rows_under (masked true false false false) F) (rows_under (masked true false false false) G)
          (ends_at f.by_address) (ends_at c.join-2.new.ends) t _ (linked_at facet.Address c.args.map.now)
          (linked_at facet.Address c.put.new.map) (linked_at facet.Address c.join.new.links)
          (linked_at facet.Address c.join-2.new.links) (linked_at facet.Address c.enter_bucket-2.new.links) are.by_address
          (comes-by (row_under (masked true false false false)) F G t s _ rows.by_address comes) (links-put facet.Address (links_at c.args.map.now) (links_at c.put.new.map) t c.put.ensures.links)
          (λ u. c.join.ensures.others facet.Address refl u)
          (λ grouped begun. c.join-2.ensures.grouped (rows_under (masked true false false false) F) (rows_under (masked true false false false) G) grouped begun
          (comes-by (row_under (masked true false false false)) F G t s _ rows.by_address comes))
          (λ u. c.enter_bucket-2.ensures.others facet.Address refl u ∙ c.enter_bucket.ensures.others facet.Address refl u ∙ c.join-4.ensures.others facet.Address refl u ∙ c.join-3.ensures.others facet.Address refl u);
      by_identifier = joined-through (rows_under (masked false true false false) F) (rows_under (masked false true false false) G)
          (ends_at f.by_identifier) (ends_at c.join-3.new.ends) t _ (linked_at facet.Identifier c.args.map.now)
          (linked_at facet.Identifier c.put.new.map) (linked_at facet.Identifier c.join-2.new.links)
          (linked_at facet.Identifier c.join-3.new.links) (linked_at facet.Identifier c.enter_bucket-2.new.links) are.by_identifier
          (comes-by (row_under (masked false true false false)) F G t s _ rows.by_identifier comes) (links-put facet.Identifier (links_at c.args.map.now) (links_at c.put.new.map) t c.put.ensures.links)
          (λ u. c.join-2.ensures.others facet.Identifier refl u ∙ c.join.ensures.others facet.Identifier refl u)
          (λ grouped begun. c.join-3.ensures.grouped (rows_under (masked false true false false) F) (rows_under (masked false true false false) G) grouped begun
          (comes-by (row_under (masked false true false false)) F G t s _ rows.by_identifier comes))
          (λ u. c.enter_bucket-2.ensures.others facet.Identifier refl u ∙ c.enter_bucket.ensures.others facet.Identifier refl u ∙ c.join-4.ensures.others facet.Identifier refl u);
      by_both = joined-through (rows_under (masked true true false false) F) (rows_under (masked true true false false) G)
          (ends_at f.by_both) (ends_at c.join-4.new.ends) t _ (linked_at facet.Both c.args.map.now)
          (linked_at facet.Both c.put.new.map) (linked_at facet.Both c.join-3.new.links)
          (linked_at facet.Both c.join-4.new.links) (linked_at facet.Both c.enter_bucket-2.new.links) are.by_both
          (comes-by (row_under (masked true true false false)) F G t s _ rows.by_both comes) (links-put facet.Both (links_at c.args.map.now) (links_at c.put.new.map) t c.put.ensures.links)
          (λ u. c.join-3.ensures.others facet.Both refl u ∙ c.join-2.ensures.others facet.Both refl u ∙ c.join.ensures.others facet.Both refl u)
          (λ grouped begun. c.join-4.ensures.grouped (rows_under (masked true true false false) F) (rows_under (masked true true false false) G) grouped begun
          (comes-by (row_under (masked true true false false)) F G t s _ rows.by_both comes))
          (λ u. c.enter_bucket-2.ensures.others facet.Both refl u ∙ c.enter_bucket.ensures.others facet.Both refl u);
      by_ipv6 = c.append.ensures.grouped (rows_under (masked false false true false) F)
          (rows_under (masked false false true false) G) are.by_ipv6
          (comes-by (row_under (masked false false true false)) F G t s _ rows.by_ipv6 comes);
      by_address_ipv6 = c.append-2.ensures.grouped (rows_under (masked true false true false) F)
          (rows_under (masked true false true false) G) are.by_address_ipv6
          (comes-by (row_under (masked true false true false)) F G t s _ rows.by_address_ipv6 comes);
      by_identifier_ipv6 = c.append-3.ensures.grouped (rows_under (masked false true true false) F)
          (rows_under (masked false true true false) G) are.by_identifier_ipv6
          (comes-by (row_under (masked false true true false)) F G t s _ rows.by_identifier_ipv6 comes);
      by_all = c.append-4.ensures.grouped (rows_under (masked true true true false) F)
          (rows_under (masked true true true false) G) are.by_all
          (comes-by (row_under (masked true true true false)) F G t s _ rows.by_all comes);
      by_id = joined-through (id_buckets b F) (id_buckets b G)
          (in_bucket (ends_by f.by_id)) (in_bucket (ends_by c.enter_bucket.new.ends)) t _ (linked_at facet.Id c.args.map.now)
          (linked_at facet.Id c.put.new.map) (linked_at facet.Id c.join-4.new.links)
          (linked_at facet.Id c.enter_bucket.new.links) (linked_at facet.Id c.enter_bucket-2.new.links) are.by_id
          (comes-by (id_text b) F G t s _ (ap (λ (n : ℕ). Some (bucket_text n)) in_id) comes) (links-put facet.Id (links_at c.args.map.now) (links_at c.put.new.map) t c.put.ensures.links)
          (λ u. c.join-4.ensures.others facet.Id refl u ∙ c.join-3.ensures.others facet.Id refl u ∙ c.join-2.ensures.others facet.Id refl u ∙ c.join.ensures.others facet.Id refl u)
          (λ grouped begun. c.enter_bucket.ensures.grouped (id_buckets b F) (id_buckets b G) grouped begun
          (comes-by (id_text b) F G t s _ (ap (λ (n : ℕ). Some (bucket_text n)) in_id) comes))
          (λ u. c.enter_bucket-2.ensures.others facet.Id refl u);
      by_whole = joined-through (whole_buckets b F) (whole_buckets b G)
          (in_bucket (ends_by f.by_whole)) (in_bucket (ends_by c.enter_bucket-2.new.ends)) t _ (linked_at facet.Whole c.args.map.now)
          (linked_at facet.Whole c.put.new.map) (linked_at facet.Whole c.enter_bucket.new.links)
          (linked_at facet.Whole c.enter_bucket-2.new.links) (linked_at facet.Whole c.enter_bucket-2.new.links) are.by_whole
          (comes-by (whole_text b) F G t s _ (ap (λ (n : ℕ). Some (bucket_text n)) in_whole) comes) (links-put facet.Whole (links_at c.args.map.now) (links_at c.put.new.map) t c.put.ensures.links)
          (λ u. c.enter_bucket.ensures.others facet.Whole refl u ∙ c.join-4.ensures.others facet.Whole refl u ∙ c.join-3.ensures.others facet.Whole refl u ∙ c.join-2.ensures.others facet.Whole refl u ∙ c.join.ensures.others facet.Whole refl u)
          (λ grouped begun. c.enter_bucket-2.ensures.grouped (whole_buckets b F) (whole_buckets b G) grouped begun
          (comes-by (whole_text b) F G t s _ (ap (λ (n : ℕ). Some (bucket_text n)) in_whole) comes))
          (λ u. refl);
    }

pub returns-clause-sessions : goal.returns-clause-sessions
returns-clause-sessions g c =
    let stays = all-stay c.join.ensures.stay c.join-2.ensures.stay c.join-3.ensures.stay c.join-4.ensures.stay
    c.enter_bucket.ensures.stay c.enter_bucket-2.ensures.stay in
    put-before c.put.new.map c.enter_bucket-2.new.links stays (session_of c.args.map.now) c.args.ticket
    (Some (kept_session c.args.new.session)) c.put.ensures.puts

pub returns-clause-len : goal.returns-clause-len
returns-clause-len g c =
    let stays = all-stay c.join.ensures.stay c.join-2.ensures.stay c.join-3.ensures.stay c.join-4.ensures.stay
    c.enter_bucket.ensures.stay c.enter_bucket-2.ensures.stay in
    omega (arith, stays.len, c.put.ensures.len)

pub returns-clause-map_room : goal.returns-clause-map_room
returns-clause-map_room g c =
    let stays = all-stay c.join.ensures.stay c.join-2.ensures.stay c.join-3.ensures.stay c.join-4.ensures.stay
    c.enter_bucket.ensures.stay c.enter_bucket-2.ensures.stay in
    omega (arith, stays.room, c.put.ensures.room)

pub returns-clause-room : goal.returns-clause-room
returns-clause-room g c = λ n room. record {
  by_peer = omega (arith, room.by_peer, c.join.ensures.room);
  by_address = omega (arith, room.by_address, c.join-2.ensures.room);
  by_identifier = omega (arith, room.by_identifier, c.join-3.ensures.room);
  by_both = omega (arith, room.by_both, c.join-4.ensures.room);
  by_ipv6 = c.append.ensures.room n room.by_ipv6;
  by_address_ipv6 = c.append-2.ensures.room n room.by_address_ipv6;
  by_identifier_ipv6 = c.append-3.ensures.room n room.by_identifier_ipv6;
  by_all = c.append-4.ensures.room n room.by_all;
  by_id = omega (arith, room.by_id, c.enter_bucket.ensures.room);
  by_whole = omega (arith, room.by_whole, c.enter_bucket-2.ensures.room);
}

pub join-requires : goal.join-requires
join-requires g c = omega (arith, c.requires.facets.by_peer)

pub join-requires-2 : goal.join-requires-2
join-requires-2 g c = omega (arith, c.requires.facets.by_address)

pub join-requires-3 : goal.join-requires-3
join-requires-3 g c = omega (arith, c.requires.facets.by_identifier)

pub join-requires-4 : goal.join-requires-4
join-requires-4 g c = omega (arith, c.requires.facets.by_both)

pub enter_bucket-requires : goal.enter_bucket-requires
enter_bucket-requires g c = omega (arith, c.requires.facets.by_id)

pub enter_bucket-requires-2 : goal.enter_bucket-requires-2
enter_bucket-requires-2 g c = omega (arith, c.requires.facets.by_whole)
