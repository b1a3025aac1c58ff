-- How the links to servers' ends rest, in the order of their ends' places then, each end by the first link to it.
use Rattle.std.proofs.Common.{◌≡◌, true, false, inl, inr, ℕ, ◌+◌, ◌<◌, ◌≤◌, List, length, map, get_or, set, refl, sym, ap, ◌∙◌, arith}
use Rattle.std.proofs.lemmas.Bool.{cases_lt}
use Rattle.std.proofs.lemmas.List.{get_or-set_other, get_or-set_same, length-set}
use Rattle.roam_conf.specs.declared.place.Link.{Link}
use Rattle.roam_reload.specs.Kept.{same_servers}
use Rattle.roam_realm.specs.RealmConfig.{RealmConfig, end_place, server_link_count}
use Rattle.roam_realm.specs.Rests.{awake}
use Rattle.roam_realm.specs.declared.rest.Rest.{Rest}
use Rattle.roam_migrate.specs.Reload.{rest_then, rests_then, server_links_of}
use Rattle.roam_migrate.proofs.LinkListLemmas.{by_links, server_links_number, server_links_stand}
use Rattle.roam_migrate.proofs.LinkPlaceLemmas.{IsFirst, one_end}

-- those before a place are there
pub record AreRestsTo (old new : RealmConfig) (before after : List Rest) (k : ℕ) : Type 0 where
  pub count : length after ≡ server_link_count new
  pub each : (m : Link) → IsFirst new m → end_place new m < k
      → get_or after (end_place new m) awake ≡ rest_then old new before m

pub none_rest : (old new : RealmConfig) (before after : List Rest) → length after ≡ server_link_count new
    → AreRestsTo old new before after 0
none_rest old new before after count = record { count = count; each = λ m is below. absurd (omega (arith, below)) }

pub one_rests : (old new : RealmConfig) (before after : List Rest) (k : ℕ) (m : Link) (rest : Rest)
    → AreRestsTo old new before after k → k < length after → IsFirst new m → end_place new m ≡ k
    → rest ≡ rest_then old new before m → AreRestsTo old new before (set after k rest) (k + 1)
one_rests old new before after k m rest h within is at then' = record {
  count = length-set after k rest ∙ h.count;
  each = λ n isn below. elim (cases_lt (end_place new n) k)
      as (λ _. get_or (set after k rest) (end_place new n) awake ≡ rest_then old new before n) [
        | inl less ↦ (
            get_or-set_other after k (end_place new n) rest awake (λ same. omega (arith, same, less))
            ∙ h.each n isn less)
        | inr past ↦ (
            let same : m ≡ n = one_end new m n is isn (omega (arith, at, below, past)) in
            let here : end_place new n ≡ k = sym (ap (end_place new) same) ∙ at in
            ap (λ (p : ℕ). get_or (set after k rest) p awake) here
            ∙ get_or-set_same after k rest awake within ∙ then'
            ∙ ap (rest_then old new before) same)
      ];
}

pub all_rest : (old new : RealmConfig) (before after : List Rest) (k : ℕ) → AreRestsTo old new before after k
    → length after ≤ k → after ≡ map (rest_then old new before) (server_links_of new)
all_rest old new before after k h past =
    by_links (IsFirst new) (end_place new) (rest_then old new before) awake after (server_links_of new)
    (server_links_stand new)
    (h.count ∙ sym (server_links_number new)) (λ m is below. h.each m is (omega (arith, below, past)))

-- ---- which rests are taken

pub rests_moved : (old new : RealmConfig) (before after : List Rest)
    → same_servers old.realm.servers new.realm.servers ≡ false
    → after ≡ map (rest_then old new before) (server_links_of new) → after ≡ rests_then old new before
rests_moved old new before after other is = rw other is

pub rests_kept : (old new : RealmConfig) (before : List Rest)
    → same_servers old.realm.servers new.realm.servers ≡ true
    → before ≡ rests_then old new before
rests_kept old new before same = rw same refl
