-- The statements of a document beside its configuration. Ours.
use Rattle.std.specs.Prelude.{◌≡◌, ℕ, codes, List, Some, None, ◌⊎◌, option_map, string_bytes}
use Rattle.toml.specs.Data.{Members, get_member}
use Rattle.toml.specs.Parse.{parse_document}
use Rattle.roam_conf_reader.specs.declared.fault.ConfFault.{ConfFault}
use Rattle.roam_conf_reader.specs.declared.fault.ConfFault.TheVariants.{Syntax, BadValue}
use Rattle.roam_conf_reader.specs.declared.settings.Settings.{Settings}
use Rattle.roam_conf_reader.specs.Values.{endpoint, exchange_lines, file_path, number_or, optional_at, socket_path, station_word}

-- the text is a TOML document that states the settings
pub record StatesSettings (text : List ℕ) (settings : Settings) : Type 0 where
  pub members : Members
  pub parsed : parse_document text ≡ Some members
  pub metrics : optional_at endpoint (codes "metrics") members ≡ Some settings.metrics
  pub control : optional_at socket_path (codes "control") members ≡ Some (option_map string_bytes settings.control)
  pub log_exchanges : exchange_lines (get_member (codes "log_exchanges") members) ≡ Some settings.log_exchanges
  pub log_station : station_word (get_member (codes "log_station") members) ≡ Some settings.log_station
  pub state : optional_at file_path (codes "state") members ≡ Some (option_map string_bytes settings.state)
  pub state_every : number_or 60 1 86400 (get_member (codes "state_every") members) ≡ Some settings.state_every

-- the text is a document with a bad value of one of their keys
pub record HasBadSettings (text : List ℕ) : Type 0 where
  pub members : Members
  pub parsed : parse_document text ≡ Some members
  pub bad : (optional_at endpoint (codes "metrics") members ≡ None)
      ⊎ (optional_at socket_path (codes "control") members ≡ None)
      ⊎ (exchange_lines (get_member (codes "log_exchanges") members) ≡ None)
      ⊎ (station_word (get_member (codes "log_station") members) ≡ None)
      ⊎ (optional_at file_path (codes "state") members ≡ None)
      ⊎ (number_or 60 1 86400 (get_member (codes "state_every") members) ≡ None)

-- the text states none, for this fault
abbrev pub IsNoSettings : List ℕ → ConfFault → Type 0
IsNoSettings text Syntax = parse_document text ≡ None
IsNoSettings text BadValue = HasBadSettings text
IsNoSettings text _ = ⊥
