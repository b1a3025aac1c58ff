-- The layout of tables, one old table after the other: words of private functions alone (ours).
use Rattle.std.specs.Prelude.{Bool, false, List, [], ◌∷◌, map, Option, None, Some, option_map, if◌then◌else◌}
use Rattle.std.specs.List.{filter_map, list_any}
use Rattle.std.specs.Option.{option_map_or}
use Rattle.roam_conf.specs.Config.{PeerView, RealmView}
use Rattle.roam_conf.specs.Parts.{shown_peer, shown_realm}
use Rattle.roam_conf.specs.declared.peer.Peer.{Peer}
use Rattle.roam_conf.specs.declared.realm.Realm.{Realm}

-- the tables that weren't taken yet, each in its slot
abbrev pub peers_in : List (Option Peer) → List (Option PeerView)
peers_in slots = map (λ slot. option_map shown_peer slot) slots

abbrev pub realms_in : List (Option Realm) → List (Option RealmView)
realms_in slots = map (λ slot. option_map shown_realm slot) slots

-- all tables, each in a slot
abbrev pub all_in : {X : Type 0} → List X → List (Option X)
all_in xs = map (λ x. Some x) xs

-- a slot has a table that passes the test
abbrev pub slot_holds : {X : Type 0} → (X → Bool) → Option X → Bool
slot_holds test slot = option_map_or test slot false

-- a table stays in its slot where it isn't the same as one of these
abbrev pub slot_then : {X : Type 0} → (X → X → Bool) → List X → X → Option X
slot_then same taken x = if list_any (λ t. same t x) taken then None else Some x

-- all slots once those of some old tables were taken
abbrev pub slots_then : {X : Type 0} → (X → X → Bool) → List X → List X → List (Option X)
slots_then same taken xs = map (slot_then same taken) xs

-- the tables that are still there
abbrev pub left_in : {X : Type 0} → List (Option X) → List X
left_in slots = filter_map (λ slot. slot) slots

-- the first table that is the same is taken out of its slot
abbrev pub without_first : {X : Type 0} → (X → Bool) → List (Option X) → List (Option X)
without_first test [] = []
without_first test (None ∷ slots) = None ∷ without_first test slots
without_first test (Some x ∷ slots) = if test x then None ∷ slots else Some x ∷ without_first test slots
