-- What is carried over has a cursor for each link of the new part, and a rest for each of a server's.
use Rattle.std.proofs.Common.{◌≡◌, Bool, true, false, List, length, map, refl, ◌∙◌, arith, if◌then◌else◌}
use Rattle.std.proofs.lemmas.List.{length-map}
use Rattle.std.specs.Cmp.Lexicographic.{as_long}
use Rattle.roam_reload.specs.Kept.{same_server, same_servers}
use Rattle.roam_realm.specs.RealmConfig.{RealmConfig, server_link_count}
use Rattle.roam_realm.specs.declared.rest.Rest.{Rest}
use Rattle.roam_migrate.specs.Reload.{CarriedHasPlaces, cursor_then, links_of, rest_then, rests_then, server_links_of}
use Rattle.roam_migrate.proofs.LinkListLemmas.{links_number, server_links_number}

rests_by : (b : Bool) (old new : RealmConfig) (rests : List Rest)
    → (b ≡ true → length rests ≡ server_link_count new)
    → length (if b then rests else map (rest_then old new rests) (server_links_of new)) ≡ server_link_count new
rests_by true old new rests same = same refl
rests_by false old new rests same =
    length-map (server_links_of new) (rest_then old new rests) ∙ server_links_number new

rests_number : (old new : RealmConfig) (rests : List Rest) → length rests ≡ server_link_count old
    → length (rests_then old new rests) ≡ server_link_count new
rests_number old new rests count =
    rests_by (same_servers old.realm.servers new.realm.servers) old new rests
    (λ stand. omega (arith, count, as_long same_server old.realm.servers new.realm.servers stand))

pub carried_has_places : CarriedHasPlaces
carried_has_places old new s places = record {
  cursors = length-map (links_of new) (cursor_then old new s.cursors) ∙ links_number new;
  rests = rests_number old new s.rests places.rests;
}
