-- The configuration that a text states, and the faults of a text: the first of the list counts. Ours.
use Rattle.std.specs.Prelude.{◌≡◌, ℕ, Bool, true, false, List, [], ◌∷◌, Option, Some, None, if◌then◌else◌}
use Rattle.std.specs.List.{AllByRecursion}
use Rattle.toml.specs.Data.{Members}
use Rattle.toml.specs.Parse.{parse_document}
use Rattle.roam_conf_reader.specs.declared.fault.ConfFault.{ConfFault}
use Rattle.roam_conf_reader.specs.declared.fault.ConfFault.TheVariants.{Syntax, Missing, BadValue, DuplicateRealm, DuplicatePeer, DuplicateEndpoint, DuplicateServer, DuplicateLink, NoWayOut, UnknownPeer, Memory}
use Rattle.roam_conf.specs.Asking.{has_unknown_peer}
use Rattle.roam_conf.specs.Config.{ConfigView}
use Rattle.roam_conf.specs.Ways.{has_no_way_out}
use Rattle.roam_conf_reader.specs.Document.{StatesConfig, document_misses}
use Rattle.roam_conf.specs.Duplicates.{has_duplicate_realm, has_duplicate_peer, has_duplicate_endpoint, has_duplicate_server, has_duplicate_link}

-- the text is a TOML document that states the configuration
pub record States (text : List ℕ) (config : ConfigView) : Type 0 where
  pub members : Members
  pub parsed : parse_document text ≡ Some members
  pub stated : StatesConfig members config

-- the text is a document in which a required key is absent
pub record Misses (text : List ℕ) : Type 0 where
  pub members : Members
  pub parsed : parse_document text ≡ Some members
  pub missed : document_misses members ≡ true

-- the text is a document that states no configuration: where no key is missing, by a wrong type, a value
-- out of its range or an unknown key, since `StatesConfig` asks nothing else of it
pub record StatesNone (text : List ℕ) : Type 0 where
  pub members : Members
  pub parsed : parse_document text ≡ Some members
  pub unstated : (config : ConfigView) → ¬ (StatesConfig members config)

-- whether a configuration has the duplicates that the fault names, or a server where its realm's `out` sends nothing,
-- or names a peer that isn't there
abbrev pub has_duplicate : ConfFault → ConfigView → Bool
has_duplicate DuplicateRealm config = has_duplicate_realm config.realms config.reject
has_duplicate DuplicatePeer config = has_duplicate_peer config.peers
has_duplicate DuplicateEndpoint config = has_duplicate_endpoint config.auth config.acct config.realms
has_duplicate DuplicateServer config = has_duplicate_server config.realms
has_duplicate DuplicateLink config = has_duplicate_link config.peers config.realms
has_duplicate NoWayOut config = has_no_way_out config.realms
has_duplicate UnknownPeer config = has_unknown_peer config.peers config.realms
has_duplicate _ config = false

-- the text states such a configuration
pub record StatesDuplicate (text : List ℕ) (fault : ConfFault) : Type 0 where
  pub config : ConfigView
  pub stated : States text config
  pub twice : has_duplicate fault config ≡ true

-- ## First fault
-- The first of Syntax, Missing, BadValue, DuplicateRealm, DuplicatePeer, DuplicateEndpoint, DuplicateServer,
-- DuplicateLink, NoWayOut, UnknownPeer that holds anywhere in the text.
-- Source: ours
-- Rules out: a later fault that hides an earlier one
-- Stands in: `roam_conf_reader` `Faults.antt`: `Holds`, `IsFirstFault`; `read_config`
--
-- the fault holds somewhere in the text
abbrev pub Holds : List ℕ → ConfFault → Type 0
Holds text Syntax = parse_document text ≡ None
Holds text Missing = Misses text
Holds text BadValue = StatesNone text
Holds text DuplicateRealm = StatesDuplicate text DuplicateRealm
Holds text DuplicatePeer = StatesDuplicate text DuplicatePeer
Holds text DuplicateEndpoint = StatesDuplicate text DuplicateEndpoint
Holds text DuplicateServer = StatesDuplicate text DuplicateServer
Holds text DuplicateLink = StatesDuplicate text DuplicateLink
Holds text NoWayOut = StatesDuplicate text NoWayOut
Holds text UnknownPeer = StatesDuplicate text UnknownPeer
Holds text Memory = ⊥

-- all ten
abbrev pub every_fault : List ConfFault
every_fault =
    Syntax ∷ Missing ∷ BadValue ∷ DuplicateRealm ∷ DuplicatePeer ∷ DuplicateEndpoint ∷ DuplicateServer
    ∷ DuplicateLink ∷ NoWayOut ∷ UnknownPeer ∷ []

-- the faults before a fault in the list of all ten
abbrev pub earlier : ConfFault → List ConfFault
earlier Syntax = []
earlier Missing = Syntax ∷ []
earlier BadValue = Syntax ∷ Missing ∷ []
earlier DuplicateRealm = Syntax ∷ Missing ∷ BadValue ∷ []
earlier DuplicatePeer = Syntax ∷ Missing ∷ BadValue ∷ DuplicateRealm ∷ []
earlier DuplicateEndpoint = Syntax ∷ Missing ∷ BadValue ∷ DuplicateRealm ∷ DuplicatePeer ∷ []
earlier DuplicateServer = Syntax ∷ Missing ∷ BadValue ∷ DuplicateRealm ∷ DuplicatePeer ∷ DuplicateEndpoint ∷ []
earlier DuplicateLink =
    Syntax ∷ Missing ∷ BadValue ∷ DuplicateRealm ∷ DuplicatePeer ∷ DuplicateEndpoint ∷ DuplicateServer ∷ []
earlier NoWayOut =
    Syntax ∷ Missing ∷ BadValue ∷ DuplicateRealm ∷ DuplicatePeer ∷ DuplicateEndpoint ∷ DuplicateServer
    ∷ DuplicateLink ∷ []
earlier UnknownPeer =
    Syntax ∷ Missing ∷ BadValue ∷ DuplicateRealm ∷ DuplicatePeer ∷ DuplicateEndpoint ∷ DuplicateServer
    ∷ DuplicateLink ∷ NoWayOut ∷ []
earlier Memory = every_fault

-- none of these holds in the text
abbrev pub NoneHolds : List ℕ → List ConfFault → Type 0
NoneHolds text faults = AllByRecursion (λ fault. ¬ (Holds text fault)) faults

-- the fault holds, and none before it
pub record IsFirstFault (text : List ℕ) (fault : ConfFault) : Type 0 where
  pub holds : Holds text fault
  pub none_before : NoneHolds text (earlier fault)

-- the first of the seven that is there
unfoldable pub first_duplicate : ConfigView → Option ConfFault
first_duplicate config =
    if has_duplicate DuplicateRealm config then Some DuplicateRealm
    else if has_duplicate DuplicatePeer config then Some DuplicatePeer
    else if has_duplicate DuplicateEndpoint config then Some DuplicateEndpoint
    else if has_duplicate DuplicateServer config then Some DuplicateServer
    else if has_duplicate DuplicateLink config then Some DuplicateLink
    else if has_duplicate NoWayOut config then Some NoWayOut
    else if has_duplicate UnknownPeer config then Some UnknownPeer
    else None
