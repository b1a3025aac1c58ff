-- Which faults hold in a text whose document is known.
use Rattle.std.proofs.Common.{◌≡◌, Bool, true, false, cond, List, ℕ, Option, Some, None, refl, sym, ap, subst, ◌∙◌}
use Rattle.std.proofs.lemmas.Bool.{false≢true}
use Rattle.std.proofs.lemmas.Option.{same_Some}
use Rattle.toml.specs.Data.{Members}
use Rattle.toml.specs.Parse.{parse_document}
use Rattle.roam_conf_reader.specs.declared.fault.ConfFault.{ConfFault}
use Rattle.roam_conf_reader.specs.declared.fault.ConfFault.TheVariants.{DuplicateRealm, DuplicatePeer, DuplicateEndpoint, DuplicateServer, DuplicateLink, NoWayOut, UnknownPeer}
use Rattle.roam_conf.specs.Config.{ConfigView}
use Rattle.roam_conf.specs.Consistent.{IsConsistent}
use Rattle.roam_conf_reader.specs.Document.{StatesConfig, document_misses}
use Rattle.roam_conf_reader.specs.Faults.{first_duplicate, Misses, StatesNone, StatesDuplicate, has_duplicate, NoneHolds, IsFirstFault, every_fault}
use Rattle.roam_conf_reader.proofs.UniqueLemmas.{config_unique}

-- a text that is a document with all required keys, and states a configuration
pub record Reads (text : List ℕ) (members : Members) (config : ConfigView) : Type 0 where
  pub parsed : parse_document text ≡ Some members
  pub complete : document_misses members ≡ false
  pub stated : StatesConfig members config

pub not_syntax : (text : List ℕ) (members : Members) → parse_document text ≡ Some members →
    parse_document text ≡ None → ⊥
not_syntax text ms parsed unparsed = cc

pub not_missed : (text : List ℕ) (members : Members) → parse_document text ≡ Some members →
    document_misses members ≡ false → Misses text → ⊥
not_missed text ms parsed complete misses =
    let same : ms ≡ misses.members = same_Some ms misses.members (sym parsed ∙ misses.parsed) in
    cc

pub not_none : (text : List ℕ) (members : Members) (config : ConfigView) → parse_document text ≡ Some members →
    StatesConfig members config → StatesNone text → ⊥
not_none text ms config parsed stated none =
    let same : ms ≡ none.members = same_Some ms none.members (sym parsed ∙ none.parsed) in
    none.unstated config (subst (λ m. StatesConfig m config) same stated)

not_twice : (text : List ℕ) (members : Members) (config : ConfigView) (fault : ConfFault) → Reads text members config
    → has_duplicate fault config ≡ false → StatesDuplicate text fault → ⊥
not_twice text ms config fault reads once twice =
    let same : twice.stated.members ≡ ms = same_Some twice.stated.members ms (sym twice.stated.parsed ∙ reads.parsed) in
    let stated : StatesConfig ms twice.config = subst (λ m. StatesConfig m twice.config) same twice.stated.stated in
    let one : twice.config ≡ config = config_unique ms twice.config config stated reads.stated in
    false≢true (sym once ∙ ap (has_duplicate fault) (sym one) ∙ twice.twice)

-- the first of seven tests that is true
abbrev first_of : Bool → Bool → Bool → Bool → Bool → Bool → Bool → Option ConfFault
first_of true b c d e f g = Some DuplicateRealm
first_of false true c d e f g = Some DuplicatePeer
first_of false false true d e f g = Some DuplicateEndpoint
first_of false false false true e f g = Some DuplicateServer
first_of false false false false true f g = Some DuplicateLink
first_of false false false false false true g = Some NoWayOut
first_of false false false false false false true = Some UnknownPeer
first_of false false false false false false false = None

first_of_config : (config : ConfigView) →
    first_duplicate config ≡ first_of (has_duplicate DuplicateRealm config) (has_duplicate DuplicatePeer config)
    (has_duplicate DuplicateEndpoint config) (has_duplicate DuplicateServer config)
    (has_duplicate DuplicateLink config) (has_duplicate NoWayOut config) (has_duplicate UnknownPeer config)
unfolding first_duplicate
first_of_config config = by_cases _ _ _ _ _ _ _
  where
    by_cases : (a b c d e f g : Bool) →
        cond a (Some DuplicateRealm) (cond b (Some DuplicatePeer)
        (cond c (Some DuplicateEndpoint)
        (cond d (Some DuplicateServer) (cond e (Some DuplicateLink)
        (cond f (Some NoWayOut) (cond g (Some UnknownPeer) None))))))
        ≡ first_of a b c d e f g
    by_cases true b c d e f g = refl
    by_cases false true c d e f g = refl
    by_cases false false true d e f g = refl
    by_cases false false false true e f g = refl
    by_cases false false false false true f g = refl
    by_cases false false false false false true g = refl
    by_cases false false false false false false true = refl
    by_cases false false false false false false false = refl

-- the seven tests of a configuration, with the answer of each
record Tests (config : ConfigView) (a b c d e f g : Bool) : Type 0 where
  realm : has_duplicate DuplicateRealm config ≡ a
  peer : has_duplicate DuplicatePeer config ≡ b
  endpoint : has_duplicate DuplicateEndpoint config ≡ c
  server : has_duplicate DuplicateServer config ≡ d
  link : has_duplicate DuplicateLink config ≡ e
  ways : has_duplicate NoWayOut config ≡ f
  known : has_duplicate UnknownPeer config ≡ g

-- a fault that is there, after those that aren't
found : (text : List ℕ) (members : Members) (config : ConfigView) (fault : ConfFault) → Reads text members config →
    has_duplicate fault config ≡ true → StatesDuplicate text fault
found text ms config fault reads twice = record {
  config = config;
  stated = record { members = ms; parsed = reads.parsed; stated = reads.stated };
  twice = twice;
}

first_fault_at : (text : List ℕ) (members : Members) (config : ConfigView) (fault : ConfFault) →
    Reads text members config → (a b c d e f g : Bool) → Tests config a b c d e f g →
    first_of a b c d e f g ≡ Some fault → IsFirstFault text fault
first_fault_at text ms config fault reads true b c d e f g tests is =
    let n1 = not_syntax text ms reads.parsed in
    let n2 = not_missed text ms reads.parsed reads.complete in
    let n3 = not_none text ms config reads.parsed reads.stated in
    subst (IsFirstFault text) (same_Some _ _ is) (record {
      holds = found text ms config DuplicateRealm reads tests.realm;
      none_before = (n1, (n2, (n3, tt)));
    })
first_fault_at text ms config fault reads false true c d e f g tests is =
    let n1 = not_syntax text ms reads.parsed in
    let n2 = not_missed text ms reads.parsed reads.complete in
    let n3 = not_none text ms config reads.parsed reads.stated in
    let n4 = not_twice text ms config DuplicateRealm reads tests.realm in
    subst (IsFirstFault text) (same_Some _ _ is) (record {
      holds = found text ms config DuplicatePeer reads tests.peer;
      none_before = (n1, (n2, (n3, (n4, tt))));
    })
first_fault_at text ms config fault reads false false true d e f g tests is =
    let n1 = not_syntax text ms reads.parsed in
    let n2 = not_missed text ms reads.parsed reads.complete in
    let n3 = not_none text ms config reads.parsed reads.stated in
    let n4 = not_twice text ms config DuplicateRealm reads tests.realm in
    let n5 = not_twice text ms config DuplicatePeer reads tests.peer in
    subst (IsFirstFault text) (same_Some _ _ is) (record {
      holds = found text ms config DuplicateEndpoint reads tests.endpoint;
      none_before = (n1, (n2, (n3, (n4, (n5, tt)))));
    })
first_fault_at text ms config fault reads false false false true e f g tests is =
    let n1 = not_syntax text ms reads.parsed in
    let n2 = not_missed text ms reads.parsed reads.complete in
    let n3 = not_none text ms config reads.parsed reads.stated in
    let n4 = not_twice text ms config DuplicateRealm reads tests.realm in
    let n5 = not_twice text ms config DuplicatePeer reads tests.peer in
    let n6 = not_twice text ms config DuplicateEndpoint reads tests.endpoint in
    subst (IsFirstFault text) (same_Some _ _ is) (record {
      holds = found text ms config DuplicateServer reads tests.server;
      none_before = (n1, (n2, (n3, (n4, (n5, (n6, tt))))));
    })
first_fault_at text ms config fault reads false false false false true f g tests is =
    let n1 = not_syntax text ms reads.parsed in
    let n2 = not_missed text ms reads.parsed reads.complete in
    let n3 = not_none text ms config reads.parsed reads.stated in
    let n4 = not_twice text ms config DuplicateRealm reads tests.realm in
    let n5 = not_twice text ms config DuplicatePeer reads tests.peer in
    let n6 = not_twice text ms config DuplicateEndpoint reads tests.endpoint in
    let n7 = not_twice text ms config DuplicateServer reads tests.server in
    subst (IsFirstFault text) (same_Some _ _ is) (record {
      holds = found text ms config DuplicateLink reads tests.link;
      none_before = (n1, (n2, (n3, (n4, (n5, (n6, (n7, tt)))))));
    })
first_fault_at text ms config fault reads false false false false false true g tests is =
    let n1 = not_syntax text ms reads.parsed in
    let n2 = not_missed text ms reads.parsed reads.complete in
    let n3 = not_none text ms config reads.parsed reads.stated in
    let n4 = not_twice text ms config DuplicateRealm reads tests.realm in
    let n5 = not_twice text ms config DuplicatePeer reads tests.peer in
    let n6 = not_twice text ms config DuplicateEndpoint reads tests.endpoint in
    let n7 = not_twice text ms config DuplicateServer reads tests.server in
    let n8 = not_twice text ms config DuplicateLink reads tests.link in
    subst (IsFirstFault text) (same_Some _ _ is) (record {
      holds = found text ms config NoWayOut reads tests.ways;
      none_before = (n1, (n2, (n3, (n4, (n5, (n6, (n7, (n8, tt))))))));
    })
first_fault_at text ms config fault reads false false false false false false true tests is =
    let n1 = not_syntax text ms reads.parsed in
    let n2 = not_missed text ms reads.parsed reads.complete in
    let n3 = not_none text ms config reads.parsed reads.stated in
    let n4 = not_twice text ms config DuplicateRealm reads tests.realm in
    let n5 = not_twice text ms config DuplicatePeer reads tests.peer in
    let n6 = not_twice text ms config DuplicateEndpoint reads tests.endpoint in
    let n7 = not_twice text ms config DuplicateServer reads tests.server in
    let n8 = not_twice text ms config DuplicateLink reads tests.link in
    let n9 = not_twice text ms config NoWayOut reads tests.ways in
    subst (IsFirstFault text) (same_Some _ _ is) (record {
      holds = found text ms config UnknownPeer reads tests.known;
      none_before = (n1, (n2, (n3, (n4, (n5, (n6, (n7, (n8, (n9, tt)))))))));
    })
first_fault_at text ms config fault reads false false false false false false false tests is = cc

-- a text with duplicates, or with a server where `out` sends nothing, or that names a peer that isn't there, has the
-- first of these as its first fault
pub first_fault : (text : List ℕ) (members : Members) (config : ConfigView) (fault : ConfFault) →
    Reads text members config → first_duplicate config ≡ Some fault → IsFirstFault text fault
first_fault text ms config fault reads is =
    first_fault_at text ms config fault reads _ _ _ _ _ _ _
    (record { realm = refl; peer = refl; endpoint = refl; server = refl; link = refl; ways = refl; known = refl })
    (sym (first_of_config config) ∙ is)

none_of : (a b c d e f g : Bool) → first_of a b c d e f g ≡ None → (a ≡ false)
    × ((b ≡ false) × ((c ≡ false) × ((d ≡ false) × ((e ≡ false) × ((f ≡ false) × ((g ≡ false)))))))
none_of true b c d e f g is = cc
none_of false true c d e f g is = cc
none_of false false true d e f g is = cc
none_of false false false true e f g is = cc
none_of false false false false true f g is = cc
none_of false false false false false true g is = cc
none_of false false false false false false true is = cc
none_of false false false false false false false is = (refl, (refl, (refl, (refl, (refl, (refl, refl))))))

-- a configuration without a first duplicate has none of the seven
pub all_consistent : (config : ConfigView) → first_duplicate config ≡ None → IsConsistent config
all_consistent config is =
    let none = none_of _ _ _ _ _ _ _ (sym (first_of_config config) ∙ is) in
    record {
      realms = none.0;
      peers = none.1.0;
      endpoints = none.1.1.0;
      servers = none.1.1.1.0;
      links = none.1.1.1.1.0;
      ways = none.1.1.1.1.1.0;
      known = none.1.1.1.1.1.1;
    }

-- no fault holds in a text whose configuration has none of them
pub none_holds : (text : List ℕ) (members : Members) (config : ConfigView) → Reads text members config →
    IsConsistent config → NoneHolds text every_fault
none_holds text ms config reads consistent = (
  not_syntax text ms reads.parsed,
  (
    not_missed text ms reads.parsed reads.complete,
    (
      not_none text ms config reads.parsed reads.stated,
      (
        not_twice text ms config DuplicateRealm reads consistent.realms,
        (
          not_twice text ms config DuplicatePeer reads consistent.peers,
          (
            not_twice text ms config DuplicateEndpoint reads consistent.endpoints,
            (
              not_twice text ms config DuplicateServer reads consistent.servers,
              (
                not_twice text ms config DuplicateLink reads consistent.links,
                (
                  not_twice text ms config NoWayOut reads consistent.ways,
                  (not_twice text ms config UnknownPeer reads consistent.known, tt),
                ),
              ),
            ),
          ),
        ),
      ),
    ),
  ),
)
