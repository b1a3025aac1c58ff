-- The groups of sessions stay groups while their tables grow.
use Rattle.std.proofs.Common.{◌≡◌, ℕ, true, false, List, Option, sym, subst}
use Rattle.roam_sessions.specs.Facets.{AreFaceted, grouped, id_buckets, masked, rows_under, whole_buckets}
use Rattle.roam_sessions.specs.Maps.{ends_at, ends_by, groups_of}
use Rattle.roam_sessions.specs.Private.Buckets.{in_bucket}
use Rattle.roam_sessions.specs.Private.Groups.{IsGrouped, PlainGroups}
use Rattle.roam_sessions.specs.Sessions.{Session}
use Rattle.roam_sessions.specs.declared.buckets.Buckets.{Buckets}
use Rattle.roam_sessions.specs.declared.ends.Ends.{Ends}
use Rattle.roam_sessions.specs.declared.facets.Facets.{Facets}
use Rattle.roam_sessions.specs.declared.links.Facet.{Facet}
use Rattle.roam_sessions.specs.declared.links.Facet.TheVariants as facet
use Rattle.roam_sessions.specs.declared.neighbours.Beside.{Beside}

-- the ends are the same
ends-same : (f : ℕ → Option (List ℕ)) (d e : List ℕ → Option Ends) (beside : ℕ → Option Beside) → e ≡ d
    → IsGrouped f (grouped d beside) → IsGrouped f (grouped e beside)
ends-same f d e beside same are = subst (λ (h : List ℕ → Option Ends). IsGrouped f (grouped h beside)) (sym same) are

-- also of buckets, where these are the same
buckets-same : (f : Buckets → ℕ → Option (List ℕ)) (b d : Buckets) (I J : ℕ → Option Ends) (beside : ℕ → Option Beside)
    → d ≡ b → J ≡ I → IsGrouped (f b) (grouped (in_bucket I) beside) → IsGrouped (f d) (grouped (in_bucket J) beside)
buckets-same f b d I J beside buckets same are =
    subst (λ (h : ℕ → Option Ends). IsGrouped (f d) (grouped (in_bucket h) beside)) (sym same)
    (subst (λ (k : Buckets). IsGrouped (f k) (grouped (in_bucket I) beside)) (sym buckets) are)

pub facets-stay : {A : Type 0} (f g : Facets A)
    → ends_at g.by_peer ≡ ends_at f.by_peer
    → ends_at g.by_address ≡ ends_at f.by_address
    → ends_at g.by_identifier ≡ ends_at f.by_identifier
    → ends_at g.by_both ≡ ends_at f.by_both
    → ends_by g.by_id ≡ ends_by f.by_id
    → ends_by g.by_whole ≡ ends_by f.by_whole
    → groups_of g.by_ipv6 ≡ groups_of f.by_ipv6
    → groups_of g.by_address_ipv6 ≡ groups_of f.by_address_ipv6
    → groups_of g.by_identifier_ipv6 ≡ groups_of f.by_identifier_ipv6
    → groups_of g.by_all ≡ groups_of f.by_all
    → g.buckets ≡ f.buckets
    → (F : ℕ → Option Session) (b : Facet → ℕ → Option Beside) → AreFaceted F f b → AreFaceted F g b
facets-stay f g peer address identifier both id whole ipv6 address_ipv6 identifier_ipv6 all buckets F b are = record {
  by_peer = ends-same (rows_under (masked false false false false) F) (ends_at f.by_peer) (ends_at g.by_peer) (b facet.Peer) peer are.by_peer;
  by_address = ends-same (rows_under (masked true false false false) F) (ends_at f.by_address) (ends_at g.by_address) (b facet.Address) address are.by_address;
  by_identifier = ends-same (rows_under (masked false true false false) F) (ends_at f.by_identifier) (ends_at g.by_identifier) (b facet.Identifier) identifier are.by_identifier;
  by_both = ends-same (rows_under (masked true true false false) F) (ends_at f.by_both) (ends_at g.by_both) (b facet.Both) both are.by_both;
  by_ipv6 = subst (λ (p : PlainGroups). IsGrouped (rows_under (masked false false true false) F) p) (sym ipv6) are.by_ipv6;
  by_address_ipv6 = subst (λ (p : PlainGroups). IsGrouped (rows_under (masked true false true false) F) p) (sym address_ipv6) are.by_address_ipv6;
  by_identifier_ipv6 = subst (λ (p : PlainGroups). IsGrouped (rows_under (masked false true true false) F) p) (sym identifier_ipv6) are.by_identifier_ipv6;
  by_all = subst (λ (p : PlainGroups). IsGrouped (rows_under (masked true true true false) F) p) (sym all) are.by_all;
  by_id = buckets-same (λ k. id_buckets k F) f.buckets g.buckets (ends_by f.by_id) (ends_by g.by_id) (b facet.Id) buckets id are.by_id;
  by_whole = buckets-same (λ k. whole_buckets k F) f.buckets g.buckets (ends_by f.by_whole) (ends_by g.by_whole) (b facet.Whole) buckets whole are.by_whole;
}
