use Rattle.std.proofs.Common.{◌≡◌, Option, Some, None, IfNone, IfSome, refl, sym, ◌∙◌}
use Rattle.std.specs.List.{find}
use Rattle.std.specs.Option.{option_or}
use Rattle.roam_conf.specs.Config.{ConfigView}
use Rattle.roam_conf.specs.Shown.{shown}
use Rattle.roam_address.specs.declared.endpoint.Endpoint.{Endpoint}
use Rattle.roam_reload.specs.Differences.{HasMoved}
use Rattle.roam_reload.specs.Moves.{is_moved}
use Rattle.roam_reload.specs.Reload.{KeepsKinds, endpoints_of}
use Rattle.roam_reload.specs.declared.kind.PlaceKind.{PlaceKind}
use Rattle.roam_reload.specs.declared.kind.PlaceKind.TheVariants.{Auth, Acct, Out, Reverse}
use Rattle.roam_reload.proofs.KindLemmas.{all_stay, found, moves}
use Rattle.roam_reload.proofs.hindrance.moved_endpoint.Goals as goal

-- the first of a kind that has moved
abbrev first_moved : ConfigView → ConfigView → PlaceKind → Option Endpoint
first_moved old new kind = find (is_moved new kind) (endpoints_of old kind)

-- what is found among those of a kind has moved
found_moved : (old new : ConfigView) (kind : PlaceKind) (e : Endpoint) → first_moved old new kind ≡ Some e →
    HasMoved old new e
found_moved old new kind e is =
    let both = found (is_moved new kind) (endpoints_of old kind) e is in
    moves old new kind e both.0 both.1

-- what is found among those of the realms has
realms_moved : (old new : ConfigView) (out reverse : Option Endpoint) → first_moved old new Out ≡ out →
    first_moved old new Reverse ≡ reverse → IfSome (option_or out reverse) (HasMoved old new)
realms_moved old new (Some e) reverse out_is reverse_is = found_moved old new Out e out_is
realms_moved old new None (Some e) out_is reverse_is = found_moved old new Reverse e reverse_is
realms_moved old new None None out_is reverse_is = tt

-- where none is found, none has
none_moved : (old new : ConfigView) (out reverse : Option Endpoint) → first_moved old new Auth ≡ None →
    first_moved old new Acct ≡ None → first_moved old new Out ≡ out → first_moved old new Reverse ≡ reverse →
    IfNone (option_or out reverse) (KeepsKinds old new)
none_moved old new None None auth acct out reverse = all_stay old new each
  where
    each : (kind : PlaceKind) → first_moved old new kind ≡ None
    each Auth = auth
    each Acct = acct
    each Out = out
    each Reverse = reverse
none_moved old new None (Some e) auth acct out reverse = tt
none_moved old new (Some e) reverse' auth acct out reverse = tt

-- nothing is found
pub returns-clause-none : goal.returns-clause-none
returns-clause-none c =
    let old = shown c.args.old.now in
    let new = shown c.args.new.now in
    let auth : first_moved old new Auth ≡ None =
    rw (← c.as_slice.ensures.value) (sym c.moved_of.ensures ∙ c.in_default.is) in
    let acct : first_moved old new Acct ≡ None =
    rw (← c.as_slice-2.ensures.value) (sym c.moved_of-2.ensures ∙ c.in_default-moved_of.is) in
    rw (c.moved_of_realms.ensures, c.as_slice-3.ensures.value)
    (none_moved old new (first_moved old new Out) (first_moved old new Reverse) auth acct refl refl)

-- one of the realms' is found
pub returns-clause-some : goal.returns-clause-some
returns-clause-some c =
    let old = shown c.args.old.now in
    let new = shown c.args.new.now in
    rw (c.moved_of_realms.ensures, c.as_slice-3.ensures.value)
    (realms_moved old new (first_moved old new Out) (first_moved old new Reverse) refl refl)

-- one of the broker's own is
pub returns-in-Some-clause-some : goal.returns-in-Some-clause-some
returns-in-Some-clause-some c =
    found_moved (shown c.args.old.now) (shown c.args.new.now) Auth c.in-Some.moved
    (rw (← c.as_slice.ensures.value) (sym c.moved_of.ensures ∙ c.in-Some.is))

pub returns-in-Some-moved_of-clause-some : goal.returns-in-Some-moved_of-clause-some
returns-in-Some-moved_of-clause-some c =
    found_moved (shown c.args.old.now) (shown c.args.new.now) Acct c.in-Some-moved_of.moved
    (rw (← c.as_slice-2.ensures.value) (sym c.moved_of-2.ensures ∙ c.in-Some-moved_of.is))
