use Rattle.std.proofs.Common.{ℕ, true, false, Some, None, refl, ap, ◌∙◌, arith}
use Rattle.std.specs.Prelude.{option_map}
use Rattle.roam_sessions.specs.Facets.{id_buckets, masked, rows_under, whole_buckets}
use Rattle.roam_sessions.specs.Kept.{shown_session}
use Rattle.roam_sessions.specs.Maps.{ends_at, ends_by, linked_at, links_at, session_of}
use Rattle.roam_sessions.specs.Private.Buckets.{bucket_text, id_text, in_bucket, whole_text}
use Rattle.roam_sessions.specs.Private.Row.{row_text, row_under}
use Rattle.roam_sessions.specs.declared.asked.Mask.{Mask}
use Rattle.roam_sessions.specs.declared.links.Facet.TheVariants as facet
use Rattle.roam_sessions.proofs.FacetLemmas.{goes-by}
use Rattle.roam_sessions.proofs.LinkedLemmas.{parted-through}
use Rattle.roam_sessions.proofs.StayLemmas.{all-stay, links-gone, put-behind, still-held}
use Rattle.roam_sessions.proofs.facets.Facets.remove.Goals as goal

pub returns-clause-faceted : goal.returns-clause-faceted
returns-clause-faceted g c = λ F G are at goes.
    let t = c.args.ticket in
    let s = shown_session c.args.session in
    let f = c.args.self.now in
    let b = f.buckets in
    record {
      by_peer = parted-through (rows_under (masked false false false false) F) (rows_under (masked false false false false) G)
          (ends_at f.by_peer) (ends_at c.part.new.ends) t _ (linked_at facet.Peer c.args.map.now)
          (linked_at facet.Peer c.args.map.now) (linked_at facet.Peer c.part.new.links)
          (linked_at facet.Peer c.leave_bucket-2.new.links) (linked_at facet.Peer c.take.new.map) are.by_peer
          (goes-by (row_under (masked false false false false)) F G t s _ (ap (option_map row_text) c.narrowed-by_peer.ensures ∙ ap (λ (m : Mask). row_under m s) c.mask.ensures) at goes)
          (λ u. refl)
          (λ grouped. c.part.ensures.grouped (rows_under (masked false false false false) F) (rows_under (masked false false false false) G) grouped
          (goes-by (row_under (masked false false false false)) F G t s _ (ap (option_map row_text) c.narrowed-by_peer.ensures ∙ ap (λ (m : Mask). row_under m s) c.mask.ensures) at goes))
          (λ u. c.leave_bucket-2.ensures.others facet.Peer refl u ∙ c.leave_bucket.ensures.others facet.Peer refl u ∙ c.part-4.ensures.others facet.Peer refl u ∙ c.part-3.ensures.others facet.Peer refl u ∙ c.part-2.ensures.others facet.Peer refl u) (links-gone facet.Peer (links_at c.leave_bucket-2.new.links) (links_at c.take.new.map) t c.take.ensures.links);
      by_address = parted-through (rows_under (masked true false false false) F) (rows_under (masked true false false false) G)
          (ends_at f.by_address) (ends_at c.part-2.new.ends) t _ (linked_at facet.Address c.args.map.now)
          (linked_at facet.Address c.part.new.links) (linked_at facet.Address c.part-2.new.links)
          (linked_at facet.Address c.leave_bucket-2.new.links) (linked_at facet.Address c.take.new.map) are.by_address
          (goes-by (row_under (masked true false false false)) F G t s _ (ap (option_map row_text) c.narrowed-by_address.ensures ∙ ap (λ (m : Mask). row_under m s) c.mask-2.ensures) at goes)
          (λ u. c.part.ensures.others facet.Address refl u)
          (λ grouped. c.part-2.ensures.grouped (rows_under (masked true false false false) F) (rows_under (masked true false false false) G) grouped
          (goes-by (row_under (masked true false false false)) F G t s _ (ap (option_map row_text) c.narrowed-by_address.ensures ∙ ap (λ (m : Mask). row_under m s) c.mask-2.ensures) at goes))
          (λ u. c.leave_bucket-2.ensures.others facet.Address refl u ∙ c.leave_bucket.ensures.others facet.Address refl u ∙ c.part-4.ensures.others facet.Address refl u ∙ c.part-3.ensures.others facet.Address refl u) (links-gone facet.Address (links_at c.leave_bucket-2.new.links) (links_at c.take.new.map) t c.take.ensures.links);
      by_identifier = parted-through (rows_under (masked false true false false) F) (rows_under (masked false true false false) G)
          (ends_at f.by_identifier) (ends_at c.part-3.new.ends) t _ (linked_at facet.Identifier c.args.map.now)
          (linked_at facet.Identifier c.part-2.new.links) (linked_at facet.Identifier c.part-3.new.links)
          (linked_at facet.Identifier c.leave_bucket-2.new.links) (linked_at facet.Identifier c.take.new.map) are.by_identifier
          (goes-by (row_under (masked false true false false)) F G t s _ (ap (option_map row_text) c.narrowed-by_identifier.ensures ∙ ap (λ (m : Mask). row_under m s) c.mask-3.ensures) at goes)
          (λ u. c.part-2.ensures.others facet.Identifier refl u ∙ c.part.ensures.others facet.Identifier refl u)
          (λ grouped. c.part-3.ensures.grouped (rows_under (masked false true false false) F) (rows_under (masked false true false false) G) grouped
          (goes-by (row_under (masked false true false false)) F G t s _ (ap (option_map row_text) c.narrowed-by_identifier.ensures ∙ ap (λ (m : Mask). row_under m s) c.mask-3.ensures) at goes))
          (λ u. c.leave_bucket-2.ensures.others facet.Identifier refl u ∙ c.leave_bucket.ensures.others facet.Identifier refl u ∙ c.part-4.ensures.others facet.Identifier refl u) (links-gone facet.Identifier (links_at c.leave_bucket-2.new.links) (links_at c.take.new.map) t c.take.ensures.links);
      by_both = parted-through (rows_under (masked true true false false) F) (rows_under (masked true true false false) G)
          (ends_at f.by_both) (ends_at c.part-4.new.ends) t _ (linked_at facet.Both c.args.map.now)
          (linked_at facet.Both c.part-3.new.links) (linked_at facet.Both c.part-4.new.links)
          (linked_at facet.Both c.leave_bucket-2.new.links) (linked_at facet.Both c.take.new.map) are.by_both
          (goes-by (row_under (masked true true false false)) F G t s _ (ap (option_map row_text) c.narrowed-by_both.ensures ∙ ap (λ (m : Mask). row_under m s) c.mask-4.ensures) at goes)
          (λ u. c.part-3.ensures.others facet.Both refl u ∙ c.part-2.ensures.others facet.Both refl u ∙ c.part.ensures.others facet.Both refl u)
          (λ grouped. c.part-4.ensures.grouped (rows_under (masked true true false false) F) (rows_under (masked true true false false) G) grouped
          (goes-by (row_under (masked true true false false)) F G t s _ (ap (option_map row_text) c.narrowed-by_both.ensures ∙ ap (λ (m : Mask). row_under m s) c.mask-4.ensures) at goes))
          (λ u. c.leave_bucket-2.ensures.others facet.Both refl u ∙ c.leave_bucket.ensures.others facet.Both refl u) (links-gone facet.Both (links_at c.leave_bucket-2.new.links) (links_at c.take.new.map) t c.take.ensures.links);
      by_ipv6 = c.leave.ensures.grouped (rows_under (masked false false true false) F)
          (rows_under (masked false false true false) G) are.by_ipv6
          (goes-by (row_under (masked false false true false)) F G t s _
          (ap (option_map row_text) c.narrowed.ensures ∙ ap (λ (m : Mask). row_under m s) c.mask-5.ensures) at goes);
      by_address_ipv6 = c.leave-2.ensures.grouped (rows_under (masked true false true false) F)
          (rows_under (masked true false true false) G) are.by_address_ipv6
          (goes-by (row_under (masked true false true false)) F G t s _
          (ap (option_map row_text) c.narrowed-2.ensures ∙ ap (λ (m : Mask). row_under m s) c.mask-6.ensures) at goes);
      by_identifier_ipv6 = c.leave-3.ensures.grouped (rows_under (masked false true true false) F)
          (rows_under (masked false true true false) G) are.by_identifier_ipv6
          (goes-by (row_under (masked false true true false)) F G t s _
          (ap (option_map row_text) c.narrowed-3.ensures ∙ ap (λ (m : Mask). row_under m s) c.mask-7.ensures) at goes);
      by_all = c.leave-4.ensures.grouped (rows_under (masked true true true false) F)
          (rows_under (masked true true true false) G) are.by_all
          (goes-by (row_under (masked true true true false)) F G t s _
          (ap (option_map row_text) c.narrowed-4.ensures ∙ ap (λ (m : Mask). row_under m s) c.mask-8.ensures) at goes);
      by_id = parted-through (id_buckets b F) (id_buckets b G)
          (in_bucket (ends_by f.by_id)) (in_bucket (ends_by c.leave_bucket.new.ends)) t _ (linked_at facet.Id c.args.map.now)
          (linked_at facet.Id c.part-4.new.links) (linked_at facet.Id c.leave_bucket.new.links)
          (linked_at facet.Id c.leave_bucket-2.new.links) (linked_at facet.Id c.take.new.map) are.by_id
          (goes-by (id_text b) F G t s _ (ap (λ (n : ℕ). Some (bucket_text n)) c.places-places.ensures.id) at goes)
          (λ u. c.part-4.ensures.others facet.Id refl u ∙ c.part-3.ensures.others facet.Id refl u ∙ c.part-2.ensures.others facet.Id refl u ∙ c.part.ensures.others facet.Id refl u)
          (λ grouped. c.leave_bucket.ensures.grouped (id_buckets b F) (id_buckets b G) grouped
          (goes-by (id_text b) F G t s _ (ap (λ (n : ℕ). Some (bucket_text n)) c.places-places.ensures.id) at goes))
          (λ u. c.leave_bucket-2.ensures.others facet.Id refl u) (links-gone facet.Id (links_at c.leave_bucket-2.new.links) (links_at c.take.new.map) t c.take.ensures.links);
      by_whole = parted-through (whole_buckets b F) (whole_buckets b G)
          (in_bucket (ends_by f.by_whole)) (in_bucket (ends_by c.leave_bucket-2.new.ends)) t _ (linked_at facet.Whole c.args.map.now)
          (linked_at facet.Whole c.leave_bucket.new.links) (linked_at facet.Whole c.leave_bucket-2.new.links)
          (linked_at facet.Whole c.leave_bucket-2.new.links) (linked_at facet.Whole c.take.new.map) are.by_whole
          (goes-by (whole_text b) F G t s _ (ap (λ (n : ℕ). Some (bucket_text n)) c.places-places.ensures.whole) at goes)
          (λ u. c.leave_bucket.ensures.others facet.Whole refl u ∙ c.part-4.ensures.others facet.Whole refl u ∙ c.part-3.ensures.others facet.Whole refl u ∙ c.part-2.ensures.others facet.Whole refl u ∙ c.part.ensures.others facet.Whole refl u)
          (λ grouped. c.leave_bucket-2.ensures.grouped (whole_buckets b F) (whole_buckets b G) grouped
          (goes-by (whole_text b) F G t s _ (ap (λ (n : ℕ). Some (bucket_text n)) c.places-places.ensures.whole) at goes))
          (λ u. refl) (links-gone facet.Whole (links_at c.leave_bucket-2.new.links) (links_at c.take.new.map) t c.take.ensures.links);
    }

-- while it goes out of its groups all sessions stay
pub take-requires : goal.take-requires
take-requires g c =
    let stays = all-stay c.part.ensures.stay c.part-2.ensures.stay c.part-3.ensures.stay c.part-4.ensures.stay
    c.leave_bucket.ensures.stay c.leave_bucket-2.ensures.stay in
    still-held c.args.map.now c.leave_bucket-2.new.links stays c.args.ticket c.requires

pub returns-clause-sessions : goal.returns-clause-sessions
returns-clause-sessions g c =
    let stays = all-stay c.part.ensures.stay c.part-2.ensures.stay c.part-3.ensures.stay c.part-4.ensures.stay
    c.leave_bucket.ensures.stay c.leave_bucket-2.ensures.stay in
    put-behind c.args.map.now c.leave_bucket-2.new.links stays (session_of c.take.new.map) c.args.ticket None
    c.take.ensures.puts

pub returns-clause-len : goal.returns-clause-len
returns-clause-len g c =
    let stays = all-stay c.part.ensures.stay c.part-2.ensures.stay c.part-3.ensures.stay c.part-4.ensures.stay
    c.leave_bucket.ensures.stay c.leave_bucket-2.ensures.stay in
    omega (arith, stays.len, c.take.ensures.len)

pub returns-clause-map_room : goal.returns-clause-map_room
returns-clause-map_room g c =
    let stays = all-stay c.part.ensures.stay c.part-2.ensures.stay c.part-3.ensures.stay c.part-4.ensures.stay
    c.leave_bucket.ensures.stay c.leave_bucket-2.ensures.stay in
    omega (arith, stays.room, c.take.ensures.room)

pub returns-clause-room : goal.returns-clause-room
returns-clause-room g c = λ n room. record {
  by_peer = omega (arith, room.by_peer, c.part.ensures.room);
  by_address = omega (arith, room.by_address, c.part-2.ensures.room);
  by_identifier = omega (arith, room.by_identifier, c.part-3.ensures.room);
  by_both = omega (arith, room.by_both, c.part-4.ensures.room);
  by_ipv6 = c.leave.ensures.room n room.by_ipv6;
  by_address_ipv6 = c.leave-2.ensures.room n room.by_address_ipv6;
  by_identifier_ipv6 = c.leave-3.ensures.room n room.by_identifier_ipv6;
  by_all = c.leave-4.ensures.room n room.by_all;
  by_id = omega (arith, room.by_id, c.leave_bucket.ensures.room);
  by_whole = omega (arith, room.by_whole, c.leave_bucket-2.ensures.room);
}
