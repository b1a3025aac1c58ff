use Rattle.std.proofs.Common.{◌≡◌, ℕ, true, false, List, Option, None, refl, sym, ap, subst}
use Rattle.std.specs.Prelude.{option_and_then}
use Rattle.roam_sessions.specs.Facets.{grouped, id_buckets, masked, rows_under, whole_buckets}
use Rattle.roam_sessions.specs.Maps.{ends_at, ends_by}
use Rattle.roam_sessions.specs.Private.Buckets.{id_text, in_bucket, whole_text}
use Rattle.roam_sessions.specs.Private.Groups.{AreEndsOf, IsGrouped, PlainGroups, if_row}
use Rattle.roam_sessions.specs.Private.Row.{row_under}
use Rattle.roam_sessions.specs.declared.ends.Ends.{Ends}
use Rattle.roam_sessions.specs.declared.links.Facet.TheVariants as facet
use Rattle.roam_sessions.proofs.BucketLemmas.{none-in-bucket}
use Rattle.roam_sessions.proofs.facets.Facets.new.Goals as goal

-- no number is in a group, and no group has ends
begun : (f : ℕ → Option (List ℕ)) (p : PlainGroups) → ((t : ℕ) → f t ≡ None) → ((row : List ℕ) → p.ends row ≡ None)
    → IsGrouped f p
begun f p none empty = record {
  ends = λ row. subst (λ (o : Option Ends). AreEndsOf f row o) (sym (empty row)) (λ t. ap (if_row row) (none t));
  beside = λ t row is. absurd (let k = none t in cc (k, is));
  within = λ t row is. absurd (let k = none t in cc (k, is));
}

pub returns : goal.returns
returns g c = λ F b none. record {
  by_peer = begun (rows_under (masked false false false false) F) (grouped (ends_at c.with_hasher.result) (b facet.Peer))
      (λ t. ap (option_and_then (row_under (masked false false false false))) (none t)) (λ row. rw c.with_hasher.ensures.empty refl);
  by_address = begun (rows_under (masked true false false false) F) (grouped (ends_at c.with_hasher-2.result) (b facet.Address))
      (λ t. ap (option_and_then (row_under (masked true false false false))) (none t)) (λ row. rw c.with_hasher-2.ensures.empty refl);
  by_identifier = begun (rows_under (masked false true false false) F) (grouped (ends_at c.with_hasher-3.result) (b facet.Identifier))
      (λ t. ap (option_and_then (row_under (masked false true false false))) (none t)) (λ row. rw c.with_hasher-3.ensures.empty refl);
  by_both = begun (rows_under (masked true true false false) F) (grouped (ends_at c.with_hasher-4.result) (b facet.Both))
      (λ t. ap (option_and_then (row_under (masked true true false false))) (none t)) (λ row. rw c.with_hasher-4.ensures.empty refl);
  by_ipv6 = c.new.ensures (rows_under (masked false false true false) F)
      (λ t. ap (option_and_then (row_under (masked false false true false))) (none t));
  by_address_ipv6 = c.new-2.ensures (rows_under (masked true false true false) F)
      (λ t. ap (option_and_then (row_under (masked true false true false))) (none t));
  by_identifier_ipv6 = c.new-3.ensures (rows_under (masked false true true false) F)
      (λ t. ap (option_and_then (row_under (masked false true true false))) (none t));
  by_all = c.new-4.ensures (rows_under (masked true true true false) F)
      (λ t. ap (option_and_then (row_under (masked true true true false))) (none t));
  by_id = begun (id_buckets c.for_limit.result F) (grouped (in_bucket (ends_by c.new-5.result)) (b facet.Id))
      (λ t. ap (option_and_then (id_text c.for_limit.result)) (none t))
      (none-in-bucket (ends_by c.new-5.result) (λ b. rw c.new-5.ensures.empty refl));
  by_whole = begun (whole_buckets c.for_limit.result F) (grouped (in_bucket (ends_by c.new-6.result)) (b facet.Whole))
      (λ t. ap (option_and_then (whole_text c.for_limit.result)) (none t))
      (none-in-bucket (ends_by c.new-6.result) (λ b. rw c.new-6.ensures.empty refl));
}
