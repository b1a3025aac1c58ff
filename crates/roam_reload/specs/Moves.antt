-- The test that an endpoint is at a place of another kind: words of private functions alone (ours).
use Rattle.std.specs.Prelude.{◌||◌, Bool}
use Rattle.roam_conf.specs.Config.{ConfigView}
use Rattle.roam_conf.specs.Duplicates.{is_among}
use Rattle.roam_address.specs.declared.endpoint.Endpoint.{Endpoint}
use Rattle.roam_reload.specs.Reload.{endpoints_of}
use Rattle.roam_reload.specs.declared.kind.PlaceKind.{PlaceKind}
use Rattle.roam_reload.specs.declared.kind.PlaceKind.TheVariants.{Auth, Acct, Out, Reverse}

-- the endpoint is at a place of another kind than this
abbrev pub is_moved : ConfigView → PlaceKind → Endpoint → Bool
is_moved config Auth endpoint =
    is_among (endpoints_of config Acct) endpoint || is_among (endpoints_of config Out) endpoint
    || is_among (endpoints_of config Reverse) endpoint
is_moved config Acct endpoint =
    is_among (endpoints_of config Auth) endpoint || is_among (endpoints_of config Out) endpoint
    || is_among (endpoints_of config Reverse) endpoint
is_moved config Out endpoint =
    is_among (endpoints_of config Auth) endpoint || is_among (endpoints_of config Acct) endpoint
    || is_among (endpoints_of config Reverse) endpoint
is_moved config Reverse endpoint =
    is_among (endpoints_of config Auth) endpoint || is_among (endpoints_of config Acct) endpoint
    || is_among (endpoints_of config Out) endpoint
