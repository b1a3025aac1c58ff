-- A file of ledgers gains items.
use Rattle.std.proofs.Common.{◌≡◌, inl, inr, ℕ, List, [], ◌∷◌, ◌++◌, ◌∙◌, ap, sym, append_assoc, append-nil, map}
use Rattle.std.specs.List.{flat_map}
use Rattle.std.proofs.lemmas.List.Concat.{flat_map-append}
use Rattle.roam_sessions.specs.Ledgers.{SavedItem, end_text, head, item_text, ledgers_text, realm, session}
use Rattle.roam_realm.specs.RealmConfig.{RealmConfig, realm_config}
use Rattle.roam_realm.specs.Written.{GainsItems, GainsRealm}
use Rattle.roam_history.specs.HubOpening.{HubOpening}
use Rattle.roam_history.specs.Seats.{SeatView}
use Rattle.roam_history.specs.Written.{BeginsRealm, SavesThen}

gains_same : (old new : List ℕ) → new ≡ old → GainsItems old new
gains_same old new same = ([], same ∙ sym (append-nil old))

pub gains_none : (old : List ℕ) → GainsItems old old
gains_none old = ([], sym (append-nil old))

pub gains_then : (old mid new : List ℕ) → GainsItems old mid → GainsItems mid new → GainsItems old new
gains_then old mid new first more = (
  first.0 ++ more.0,
  more.1 ∙ ap (λ (l : List ℕ). l ++ flat_map item_text more.0) first.1
      ∙ append_assoc old (flat_map item_text first.0) (flat_map item_text more.0)
      ∙ ap (λ (l : List ℕ). old ++ l) (sym (flat_map-append item_text first.0 more.0)),
)

gains_realm : (c : RealmConfig) (old new : List ℕ) → GainsRealm c old new → GainsItems old new
gains_realm c old new is = (
  realm c.realm.name c.realm.own_sessions ∷ [],
  is ∙ ap (λ (l : List ℕ). old ++ l) (sym (append-nil (item_text (realm c.realm.name c.realm.own_sessions)))),
)

pub gains_begun : (o : HubOpening) (index : ℕ) (old new : List ℕ) → BeginsRealm o index old new → GainsItems old new
gains_begun o index old new begins = elim begins [
  | inl same ↦ gains_same old new same
  | inr is ↦ gains_realm (realm_config o.config index) old new is
]

pub gains_saved : (o : HubOpening) (index : ℕ) (seat : SeatView) (old new : List ℕ) → SavesThen o index seat old new
    → GainsItems old new
gains_saved o index seat old new saves = elim saves [
  | inl same ↦ gains_same old new same
  | inr some ↦ (map session some.writes.sessions, some.writes.written)
]

-- with its head and its end
pub whole_file : (writing octets : List ℕ) → GainsItems head writing → octets ≡ writing ++ end_text
    → (items : List SavedItem) × (octets ≡ ledgers_text items)
whole_file writing octets gains ended = (
  gains.0,
  ended ∙ ap (λ (l : List ℕ). l ++ end_text) gains.1 ∙ append_assoc head (flat_map item_text gains.0) end_text,
)
