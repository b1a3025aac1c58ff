-- What the derived `==` of the top keys says: that each is equal.
use Rattle.std.proofs.Common.{◌≡◌, Bool, eqb, ◌&&◌, Decides}
use Rattle.std.proofs.Math.Bool.{beq}
use Rattle.std.proofs.lemmas.Bool.Decides.{Decides-and, Decides-eqb}
use Rattle.std.proofs.lemmas.Slice.Eq.{bytes_eq-Decides}
use Rattle.std.specs.Cmp.{booleans_Decides}
use Rattle.std.specs.Cmp.Lexicographic.{pointwise}
use Rattle.std.specs.Option.{option_eq}
use Rattle.roam_conf.specs.declared.top_keys.TopKeys.{TopKeys}
use Rattle.roam_conf.proofs.EqualPartsLemmas.{whole_option_decides}

-- the test as the derive writes it
abbrev pub top_eq : TopKeys → TopKeys → Bool
top_eq a b =
    eqb a.shards b.shards &&
    (pointwise eqb a.seed b.seed &&
    (eqb a.trace_limit b.trace_limit &&
    (eqb a.trace_octets b.trace_octets &&
    (option_eq eqb a.max_hops b.max_hops &&
    (option_eq eqb a.max_attributes b.max_attributes &&
    (beq a.status_server b.status_server &&
    (beq a.spread b.spread &&
    (beq a.well_formed b.well_formed &&
    (beq a.answer_unnamed b.answer_unnamed &&
    (option_eq eqb a.fresh b.fresh))))))))))

abbrev pub SameTop : TopKeys → TopKeys → Type 0
SameTop a b =
    (a.shards ≡ b.shards) × ((a.seed ≡ b.seed) × ((a.trace_limit ≡ b.trace_limit)
    × ((a.trace_octets ≡ b.trace_octets) × ((a.max_hops ≡ b.max_hops) × ((a.max_attributes ≡ b.max_attributes)
    × ((a.status_server ≡ b.status_server) × ((a.spread ≡ b.spread) × ((a.well_formed ≡ b.well_formed)
    × ((a.answer_unnamed ≡ b.answer_unnamed) × (a.fresh ≡ b.fresh))))))))))

pub top_decides : (a b : TopKeys) → Decides (top_eq a b) (SameTop a b)
top_decides a b =
    Decides-and _ _ (Decides-eqb a.shards b.shards)
    (Decides-and _ _ (bytes_eq-Decides a.seed b.seed)
    (Decides-and _ _ (Decides-eqb a.trace_limit b.trace_limit)
    (Decides-and _ _ (Decides-eqb a.trace_octets b.trace_octets)
    (Decides-and _ _ (whole_option_decides eqb Decides-eqb a.max_hops b.max_hops)
    (Decides-and _ _ (whole_option_decides eqb Decides-eqb a.max_attributes b.max_attributes)
    (Decides-and _ _ (booleans_Decides a.status_server b.status_server)
    (Decides-and _ _ (booleans_Decides a.spread b.spread)
    (Decides-and _ _ (booleans_Decides a.well_formed b.well_formed)
    (Decides-and _ _ (booleans_Decides a.answer_unnamed b.answer_unnamed)
    (whole_option_decides eqb Decides-eqb a.fresh b.fresh))))))))))
