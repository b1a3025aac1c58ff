-- Where a place's socket is bound is one of the broker's own endpoints.
use Rattle.std.proofs.Common.{◌≡◌, ℕ, zero, suc, Bool, true, false, List, [], ◌∷◌, ◌++◌, Option, Some, None, Contains, option_and_then, slice_get, refl, subst, sym}
use Rattle.std.specs.List.{flat_map}
use Rattle.std.specs.Prelude.{if◌then◌else◌}
use Rattle.std.proofs.lemmas.List.Elements.{Contains-append_left, Contains-append_right}
use Rattle.std.proofs.lemmas.Option.{get_or_from_slice_get, same_Some, slice_get_within}
use Rattle.roam_address.specs.declared.endpoint.Endpoint.{Endpoint}
use Rattle.roam_conf.specs.declared.place.Place.{Place}
use Rattle.roam_conf.specs.declared.place.Place.TheVariants as place
use Rattle.roam_conf.specs.Config.{ConfigView, RealmView}
use Rattle.roam_conf.specs.Duplicates.{realm_endpoints}
use Rattle.roam_port.specs.Sockets.{own_out, own_reverse, socket_endpoint, socket_endpoints}

-- what stands at some place of a list is one of its elements
at : {X : Type 0} (xs : List X) (i : ℕ) (x : X) → slice_get xs i ≡ Some x → Contains xs x
at xs i x is = (i, slice_get_within xs i x is, get_or_from_slice_get xs i x x is)

-- what is one of a realm's is one of all realms'
among_all :
    (realms : List RealmView) (k : ℕ) (r : RealmView) (e : Endpoint)
    → slice_get realms k ≡ Some r → Contains (realm_endpoints r) e
    → Contains (flat_map realm_endpoints realms) e
among_all [] k r e is in_realm = cc
among_all (x ∷ xs) zero r e is in_realm =
    let in_first : Contains (realm_endpoints x) e =
    subst (λ (y : RealmView). Contains (realm_endpoints y) e) (sym (same_Some x r is)) in_realm in
    Contains-append_left (realm_endpoints x) (flat_map realm_endpoints xs) e in_first
among_all (x ∷ xs) (suc k) r e is in_realm =
    Contains-append_right (realm_endpoints x) (flat_map realm_endpoints xs) e (among_all xs k r e is in_realm)

-- behind `auth` and `acct`
own : (config : ConfigView) (e : Endpoint) → Contains (flat_map realm_endpoints config.realms) e →
    Contains (socket_endpoints config) e
own config e among =
    Contains-append_right (config.auth ++ config.acct) (flat_map realm_endpoints config.realms) e among

-- one of these
own_auth : (config : ConfigView) (nth : ℕ) (e : Endpoint) → slice_get config.auth nth ≡ Some e →
    Contains (socket_endpoints config) e
own_auth config nth e is =
    Contains-append_left (config.auth ++ config.acct) (flat_map realm_endpoints config.realms) e
    (Contains-append_left config.auth config.acct e (at config.auth nth e is))

own_acct : (config : ConfigView) (nth : ℕ) (e : Endpoint) → slice_get config.acct nth ≡ Some e →
    Contains (socket_endpoints config) e
own_acct config nth e is =
    Contains-append_left (config.auth ++ config.acct) (flat_map realm_endpoints config.realms) e
    (Contains-append_right config.auth config.acct e (at config.acct nth e is))

own_out_there : (nth : ℕ) (r : RealmView) (e : Endpoint) → own_out nth r ≡ Some e → Contains (realm_endpoints r) e
own_out_there nth r e is = by_gone r.gone is
  where
    by_gone : (gone : Bool) → (if gone then None else slice_get r.out nth) ≡ Some e →
        Contains (if gone then [] else r.out ++ r.reverse) e
    by_gone true of = cc
    by_gone false of = Contains-append_left r.out r.reverse e (at r.out nth e of)

own_reverse_there : (nth : ℕ) (r : RealmView) (e : Endpoint) → own_reverse nth r ≡ Some e →
    Contains (realm_endpoints r) e
own_reverse_there nth r e is = by_gone r.gone is
  where
    by_gone : (gone : Bool) → (if gone then None else slice_get r.reverse nth) ≡ Some e →
        Contains (if gone then [] else r.out ++ r.reverse) e
    by_gone true of = cc
    by_gone false of = Contains-append_right r.out r.reverse e (at r.reverse nth e of)

-- a socket of a realm is one of all
there : (own_at : RealmView → Option Endpoint) →
    ((r : RealmView) (e : Endpoint) → own_at r ≡ Some e → Contains (realm_endpoints r) e) →
    (config : ConfigView) (k : ℕ) (e : Endpoint) (found : Option RealmView) → slice_get config.realms k ≡ found →
    option_and_then own_at found ≡ Some e → Contains (socket_endpoints config) e
there own_at in_realm config k e None is of = cc
there own_at in_realm config k e (Some r) is of = own config e (among_all config.realms k r e is (in_realm r e of))

pub own_socket : (config : ConfigView) (at : Place) (e : Endpoint) → socket_endpoint config at ≡ Some e →
    Contains (socket_endpoints config) e
own_socket config (place.Auth nth) e is = own_auth config nth e is
own_socket config (place.Acct nth) e is = own_acct config nth e is
own_socket config (place.Out realm nth) e is = there (own_out nth) (own_out_there nth) config realm e
    (slice_get config.realms realm) refl is
own_socket config (place.Reverse realm nth) e is = there (own_reverse nth) (own_reverse_there nth) config realm e
    (slice_get config.realms realm) refl is
