-- The secret of a source is the one that is shared with it.
use Rattle.std.proofs.Common.{◌≡◌, ℕ, ◌-◌, Bool, true, false, List, [], Option, Some, None, option_map, slice_get, length, refl}
use Rattle.std.specs.Option.{option_map_or}
use Rattle.std.specs.Prelude.{nat_lt, if◌then◌else◌}
use Rattle.roam_conf.specs.Config.{CoaClientView, RealmView, ServerView}
use Rattle.roam_conf.specs.Secrets.{home_secret}
use Rattle.roam_reload.specs.Kept.{Source, client_source, server_source, source}

abbrev secret_in : Option Source → List ℕ
secret_in found = option_map_or (λ (s : Source). s.secret) found []

of_server : (found : Option ServerView) →
    secret_in (option_map server_source found) ≡ option_map_or (λ (s : ServerView). s.secret) found []
of_server None = refl
of_server (Some s) = refl

of_client : (found : Option CoaClientView) →
    secret_in (option_map client_source found) ≡ option_map_or (λ (c : CoaClientView). c.secret) found []
of_client None = refl
of_client (Some c) = refl

pub secret_shared : (realm : RealmView) (home : ℕ) →
    option_map_or (λ (s : Source). s.secret) (source realm home) [] ≡ home_secret realm home
secret_shared realm home = by_kind (nat_lt home (length realm.servers))
  where
    by_kind : (is_server : Bool) →
        secret_in (if is_server then option_map server_source (slice_get realm.servers home)
        else option_map client_source (slice_get realm.coa_clients (home - length realm.servers)))
        ≡ (if is_server then option_map_or (λ (s : ServerView). s.secret) (slice_get realm.servers home) []
        else option_map_or (λ (c : CoaClientView). c.secret)
        (slice_get realm.coa_clients (home - length realm.servers)) [])
    by_kind true = of_server (slice_get realm.servers home)
    by_kind false = of_client (slice_get realm.coa_clients (home - length realm.servers))
