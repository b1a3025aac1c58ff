-- The code's items, as they are seen, without where their octets lie. Ours.
use Rattle.std.specs.Prelude.{List, map, option_map, ℕ}
use Rattle.roam_sessions.specs.Ledgers.{SavedItem, SavedSession, realm, session}
use Rattle.roam_sessions.specs.declared.item.Item.{Item}
use Rattle.roam_sessions.specs.declared.item.Item.TheVariants as item
use Rattle.roam_sessions.specs.declared.item.SessionItem.{SessionItem}
use Rattle.roam_sessions.specs.declared.item.Text.{Text}

abbrev pub shown_text : Text → List ℕ
shown_text text = text.octets.now

abbrev pub shown_session : SessionItem → SavedSession
shown_session s = record {
  peer = shown_text s.peer;
  address = option_map shown_text s.address;
  identifier = option_map shown_text s.identifier;
  ipv6 = option_map shown_text s.ipv6;
  id = shown_text s.id;
}

abbrev pub shown_item : Item → SavedItem
shown_item (item.Realm name own_sessions) = realm (shown_text name) own_sessions
shown_item (item.Session s) = session (shown_session s)

abbrev pub shown_items : List Item → List SavedItem
shown_items items = map shown_item items
